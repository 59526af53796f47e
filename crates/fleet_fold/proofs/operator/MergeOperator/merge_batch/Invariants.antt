use Rattle.std.proofs.Common.{◌≡◌, drop}
use Rattle.row_model.specs.Fold.{fold_bytes}
use Rattle.fleet_fold.proofs.operator.MergeOperator.merge_batch.Given as goal

-- The fold of the operands left onto the value so far is the fold of all operands.
abbrev pub invariant-operands : goal.invariant-operands
invariant-operands g l =
    let merge = g.Self.MergeOperator.merged (g.Self.MergeOperator.settings l.self) in
    fold_bytes merge l.key l.value (drop l.operand-index l.operands) ≡ fold_bytes merge l.key l.fn.existing_value l.operands
