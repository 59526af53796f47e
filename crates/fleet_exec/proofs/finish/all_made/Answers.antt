use Rattle.std.proofs.lemmas.Result.{err_from_is_err_and}
use Rattle.fleet_exec.proofs.Finished.{refuses_after}
use Rattle.fleet_exec.proofs.finish.all_made.Goals as goal

pub returns-in_err-answer-clause-err : goal.returns-in_err-answer-clause-err
returns-in_err-answer-clause-err c =
    let p = err_from_is_err_and c.from_residual.result c.from_residual.ensures.1 in
    rw (p.1, p.2) (λ _. refuses_after c.answers.ranges.items c.in-Some.answer _ _ c.args.made.items c.in_err-answer.field-0.0 c.answers.invariant.all c.in-Some.ensures.steps.0 c.in_err-answer.was)
