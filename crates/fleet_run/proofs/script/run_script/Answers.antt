use Rattle.std.proofs.lemmas.Result.{err_from_is_err_and}
use Rattle.std.proofs.Common.{ap}
use Rattle.fleet_run.proofs.Runs.{served_by, served_front_by, served_nothing, served_up_to_fault_by}
use Rattle.fleet_run.proofs.Refusals.{exact_refusal, not_refused}
use Rattle.fleet_run.proofs.script.run_script.Goals as goal

pub returns-in_err-lines-clause-bad_line_exact : goal.returns-in_err-lines-clause-bad_line_exact
returns-in_err-lines-clause-bad_line_exact g c = λ n bad.
    let p = err_from_is_err_and c.from_residual.result c.from_residual.ensures.1 in
    exact_refusal c.in_err-lines.field-0.0 c.from_residual.result p.0 n p.1 p.2 (c.in_err-lines.ensures.exact n bad)

pub returns-in_err-lines-clause-memory : goal.returns-in_err-lines-clause-memory
returns-in_err-lines-clause-memory g c = λ e. served_nothing _ _ c.args.text.now (g.K.Sink.view c.args.sink.now)

pub returns-clause-served : goal.returns-clause-served
returns-clause-served g c =
    served_by _ _ _ (ap (λ p. (goal.CompactionScheduler-dyn g p).answers p.1) c.as_ref.ensures.1) _ c.args.text.now _ c.in_ok-lines.ensures.found _ _ _ c.run_lines.result c.run_lines.ensures.ran

pub returns-clause-fault : goal.returns-clause-fault
returns-clause-fault g c = λ e.
    served_up_to_fault_by _ _ _ (ap (λ p. (goal.CompactionScheduler-dyn g p).answers p.1) c.as_ref.ensures.1) _ c.args.text.now _ c.in_ok-lines.ensures.found _ _ _ (c.run_lines.ensures.fault e)

pub returns-clause-memory : goal.returns-clause-memory
returns-clause-memory g c = λ e.
    served_front_by _ _ _ (ap (λ p. (goal.CompactionScheduler-dyn g p).answers p.1) c.as_ref.ensures.1) _ c.args.text.now _ c.in_ok-lines.ensures.found _ _ (c.run_lines.ensures.memory e)

pub returns-clause-bad_line_exact : goal.returns-clause-bad_line_exact
returns-clause-bad_line_exact g c = λ n bad. absurd (not_refused c.read_script.result c.in_ok-lines.lines n c.in_ok-lines.was (c.read_script.ensures.exact n bad))
