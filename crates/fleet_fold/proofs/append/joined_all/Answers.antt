use Rattle.std.proofs.Common.{Some, rules}
use Rattle.std.proofs.lemmas.Result.{err_from_is_err_and}
use Rattle.row_model.specs.Append.{append}
use Rattle.fleet_fold.proofs.Folds.{refused_at}
use Rattle.fleet_fold.proofs.Batches.{joined_on}
use Rattle.fleet_fold.proofs.append.joined_all.Goals as goal

pub operands-preserved : goal.operands-preserved
operands-preserved c = joined_on c.args._key.now c.operands.bytes.items c.args.operands.now c.operands.operand-index c.operand-item.result c.as_slice.result.now _ _ c.operands-test.true c.operand-item.is (search rules) c.operands.invariant c.in_ok-join.ensures.ok

pub returns-in_err-join : goal.returns-in_err-join
returns-in_err-join c =
    let p = err_from_is_err_and c.from_residual-in_err-join.result c.from_residual-in_err-join.ensures.1 in
    rw (p.1, p.2) (refused_at append c.args._key.now (Some c.operands.bytes.items) c.args.operands.now c.operands.operand-index c.operand-item.result c.as_slice.result.now _ c.in_err-join.field-0.0 c.operands-test.true c.operand-item.is (search rules) c.operands.invariant c.in_err-join.ensures.err)
