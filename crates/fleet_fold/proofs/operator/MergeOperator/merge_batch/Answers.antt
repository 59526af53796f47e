use Rattle.std.proofs.Common.{rules}
use Rattle.std.proofs.lemmas.Result.{err_from_is_err_and}
use Rattle.fleet_fold.proofs.Folds.{refused_at}
use Rattle.fleet_fold.proofs.operator.MergeOperator.merge_batch.Goals as goal

pub returns-in_err-merge : goal.returns-in_err-merge
returns-in_err-merge g c =
    let merge = g.Self.MergeOperator.merged (g.Self.MergeOperator.settings c.args.self.now) in
    let p = err_from_is_err_and c.from_residual-in_err-merge.result c.from_residual-in_err-merge.ensures.1 in
    rw (p.1, p.2) (refused_at merge c.args.key.now c.operands.value c.args.operands.now c.operands.operand-index c.operand-item.result c.in_ok-clone.field-0 _ c.in_err-merge.field-0.0 c.operands-test.true c.operand-item.is (search rules) c.operands.invariant c.in_err-merge.ensures)
