use Rattle.std.proofs.Common.{◌-◌, ◌+◌, ◌*◌, string_bytes, arith}
use Rattle.std.proofs.lemmas.Result.{on_ok_weaker}
use Rattle.script_model.specs.Script.{spelt_line}
use Rattle.script_model.specs.Generated.{generated_flush}
use Rattle.fleet_generate.proofs.Turns.{one_more, all_made, round_spelt}
use Rattle.fleet_generate.proofs.generator.Generator.append_round.Goals as goal

pub flushes-preserved : goal.flushes-preserved
flushes-preserved c =
    one_more spelt_line (generated_flush (3 * c.args.round)) _ _ (3 * c.args.round + 4 - c.flushes.name) (3 * c.args.round + 4 - (c.flushes.name + 1)) c.flushes.name (string_bytes c.flushes.out) _ c.flushes.self.state _
    (omega (arith, c.flushes-test.true)) c.flushes.invariant c.in_ok-append_flush.ensures.text c.in_ok-append_flush.ensures.state

pub returns-clause-text : goal.returns-clause-text
returns-clause-text c =
    let flushed = all_made _ _ _ _ (3 * c.args.round + 4 - c.flushes.name) c.flushes.name _ _ (omega (arith, c.flushes-test.false)) c.flushes.invariant in
    on_ok_weaker c.append_read.result (λ read. (round_spelt c.args.round _ _ _ _ _ _ _ flushed c.in_ok-append_job.ensures read c.append_read.ensures.state).0) c.append_read.ensures.text

pub returns-clause-state : goal.returns-clause-state
returns-clause-state c =
    let flushed = all_made _ _ _ _ (3 * c.args.round + 4 - c.flushes.name) c.flushes.name _ _ (omega (arith, c.flushes-test.false)) c.flushes.invariant in
    on_ok_weaker c.append_read.result (λ read. (round_spelt c.args.round _ _ _ _ _ _ _ flushed c.in_ok-append_job.ensures read c.append_read.ensures.state).1) c.append_read.ensures.text
