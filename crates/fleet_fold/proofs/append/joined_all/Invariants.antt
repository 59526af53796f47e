use Rattle.std.proofs.Common.{◌≡◌, Some, drop}
use Rattle.row_model.specs.Append.{append}
use Rattle.row_model.specs.Fold.{fold_bytes}
use Rattle.fleet_fold.proofs.append.joined_all.Given as goal

-- The fold of the operands left onto the bytes so far is the fold of all operands.
abbrev pub invariant-operands : goal.invariant-operands
invariant-operands l = fold_bytes append l._key (Some l.bytes.items) (drop l.operand-index l.operands) ≡ fold_bytes append l._key (Some l.first) l.operands
