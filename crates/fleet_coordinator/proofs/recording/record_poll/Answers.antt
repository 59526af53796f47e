use Rattle.std.proofs.Common.{◌∙◌, ◌-◌, ◌+◌, [], sym, arith}
use Rattle.std.proofs.lemmas.Result.{err_from_is_err_and}
use Rattle.step_model.specs.Steps.PollSteps.{puts_polled}
use Rattle.fleet_poll.specs.Polls.{poll_of}
use Rattle.fleet_coordinator.specs.Recording.{got_with}
use Rattle.fleet_coordinator.proofs.RecordPuts as law
use Rattle.fleet_coordinator.proofs.recording.record_poll.Goals as goal

pub put_once-put-requires-clause-lawful : goal.put_once-put-requires-clause-lawful
put_once-put-requires-clause-lawful g c =
    law.may_record _ _ c.tries.poll c.tries.got (λ flushes. puts_polled c.args.epoch (poll_of flushes c.args.poll) (got_with c.args.poll c.args.got) c.args.left c.args.seen) c.args.epoch (c.args.left - c.tries.tries) c.tries.seen c.tries.invariant.0
    (c.args.left - (c.tries.tries + 1)) (omega (arith, c.tries-test.true)) c.requires.lawful

pub returns-in_default : goal.returns-in_default
returns-in_default g c = λ flushes.
    rw c.with_poll.ensures
    (law.records_end flushes c.args.epoch c.tries.poll c.tries.got (c.args.left - c.tries.tries) c.tries.seen (c.tries.invariant.0 flushes) (c.args.left - (c.tries.tries + 1)) (omega (arith, c.tries-test.true))
    (c.put_once-put.ensures flushes _) (sym c.refused_at.ensures ∙ c.in_default.is))

pub returns-then-tries-left : goal.returns-then-tries-left
returns-then-tries-left g c = λ flushes.
    law.records_out flushes c.args.epoch c.tries.poll c.tries.got (c.args.left - c.tries.tries) c.tries.seen (c.tries.invariant.0 flushes) (c.args.left - (c.tries.tries + 1)) (omega (arith, c.tries-test.true))
    (c.put_once-put.ensures flushes _) c.in-Some.version (sym c.refused_at.ensures ∙ c.in-Some.is) (omega (arith, c.if-tries-left.true))

pub returns-in_err-got : goal.returns-in_err-got
returns-in_err-got g c = λ flushes.
    let p = err_from_is_err_and c.from_residual.result c.from_residual.ensures.1 in
    rw (p.1, p.2)
    (law.newer_ends flushes c.args.epoch c.tries.poll c.tries.got (c.args.left - c.tries.tries) c.tries.seen (c.tries.invariant.0 flushes) (c.args.left - (c.tries.tries + 1)) (omega (arith, c.tries-test.true))
    (c.put_once-put.ensures flushes _) c.in-Some.version (sym c.refused_at.ensures ∙ c.in-Some.is) (omega (arith, c.tries-test.true, c.if-tries-left.false)) _ c.in_err-got.ensures.failed)

pub tries-preserved : goal.tries-preserved
tries-preserved g c = (
  λ flushes.
      law.records_on flushes c.args.epoch c.tries.poll c.tries.got (c.args.left - c.tries.tries) c.tries.seen (c.tries.invariant.0 flushes) (c.args.left - (c.tries.tries + 1)) (omega (arith, c.tries-test.true))
      (c.put_once-put.ensures flushes _) c.in-Some.version (sym c.refused_at.ensures ∙ c.in-Some.is) (omega (arith, c.tries-test.true, c.if-tries-left.false)) _ _ c.in_ok-got.ensures.merged,
  c.in_ok-got.ensures.merged.described
      (law.still_described (λ prefix run. []) c.args.epoch c.tries.poll c.tries.got (c.args.left - c.tries.tries) c.tries.seen (c.tries.invariant.0 (λ prefix run. [])) (c.args.left - (c.tries.tries + 1)) (omega (arith, c.tries-test.true))
      (c.put_once-put.ensures (λ prefix run. []) _) c.in-Some.version (sym c.refused_at.ensures ∙ c.in-Some.is) c.tries.invariant.1),
)

pub returns : goal.returns
returns g c = λ flushes.
    law.records_none flushes c.args.epoch c.tries.poll c.tries.got (c.args.left - c.tries.tries) c.tries.seen (c.tries.invariant.0 flushes) (omega (arith, c.tries-test.false))
