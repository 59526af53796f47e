use Rattle.std.proofs.Common.{◌≡◌, sym, ap, ◌∙◌, subst, length}
use Rattle.script_model.specs.Script.{IsScript}
use Rattle.script_model.specs.Grammars.{served_grammar}
use Rattle.script_model.specs.Generated.{generated_lines}
use Rattle.fleet_run.specs.SourceAndSink.{SinkView}
use Rattle.fleet_run.proofs.Counted.{counted, names_no_line}
use Rattle.fleet_run.proofs.GeneratedScripts.{generated_is_served}
use Rattle.fleet_run.proofs.generated_runs.run_counted.Goals as goal

pub returns-in-Ok-run_script-clause-ran : goal.returns-in-Ok-run_script-clause-ran
returns-in-Ok-run_script-clause-ran g c =
    let size : c.len.result ≡ length c.as_slice.result.now = cc in
    counted _ _ c.args.number c.args.rounds c.as_slice.result.now _ _ _ c.len.result c.taken.result (c.as_slice.ensures.value ∙ c.in-Ok.ensures.script) (ap (λ (v : SinkView). v.taken) c.new-counted.ensures) (sym c.taken.ensures) size c.in-Ok-run_script.ensures.served

pub unreachable-requires : goal.unreachable-requires
unreachable-requires g c =
    let script = subst (λ text. IsScript served_grammar text (generated_lines c.args.number c.args.rounds)) (sym (c.as_slice.ensures.value ∙ c.in-Ok.ensures.script)) (generated_is_served c.args.number c.args.rounds c.requires.few) in
    names_no_line c.in-Err-BadLine.field-0 _ c.in-Err-BadLine.field-0-is (c.in-Err-BadLine.ensures.valid (generated_lines c.args.number c.args.rounds) script)
