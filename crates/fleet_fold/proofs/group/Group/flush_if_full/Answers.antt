use Rattle.std.proofs.Common.{arith}
use Rattle.std.proofs.lemmas.Grind.{common_steps}
use Rattle.std.proofs.lemmas.Result.{err_from_is_err_and}
use Rattle.fleet_fold.proofs.GroupSteps.{flushes_full, refuses_full}
use Rattle.fleet_fold.proofs.group.Group.flush_if_full.Goals as goal

pub returns-in_err-flush-clause-err : goal.returns-in_err-flush-clause-err
returns-in_err-flush-clause-err g c =
    let merge = g.B.BatchMerger.fold c.args.operator.now in
    let p = err_from_is_err_and c.from_residual.result c.from_residual.ensures.1 in
    rw (p.1, p.2) (refuses_full merge c.args.self.now c.in_err-flush.field-0.0 (grind (arith, common_steps)) c.in_err-flush.ensures.err)

pub returns-clause-ok : goal.returns-clause-ok
returns-clause-ok g c =
    let merge = g.B.BatchMerger.fold c.args.operator.now in
    flushes_full merge c.args.self.now c.flush.new.self (grind (arith, common_steps)) c.in_ok-flush.ensures.ok
