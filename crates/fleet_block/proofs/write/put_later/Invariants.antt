use Rattle.std.proofs.Common.{◌≡◌, ◌++◌, length}
use Rattle.std.specs.List.{AllByRecursion, flat_map}
use Rattle.row_model.specs.Bounds.{IsInBounds}
use Rattle.row_model.specs.Written.TableBytes.{row_bytes, IsWritable}
use Rattle.fleet_rows.specs.Row.{rows_of}
use Rattle.fleet_block.proofs.write.put_later.Given as goal

abbrev pub invariant-rest : goal.invariant-rest
invariant-rest l = record {
  in_bounds : AllByRecursion IsInBounds (rows_of l.rest);
  fit : AllByRecursion IsWritable (rows_of l.rest) → AllByRecursion IsWritable (rows_of l.later);
  left : l.out.items ++ flat_map (row_bytes l.first) (rows_of l.rest) ≡ l.initial.out.items ++ flat_map (row_bytes l.first) (rows_of l.later);
}

abbrev pub decreases-rest : goal.decreases-rest
decreases-rest l = length l.rest
