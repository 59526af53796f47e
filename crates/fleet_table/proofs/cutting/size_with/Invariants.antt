use Rattle.std.proofs.Common.{◌≡◌, ◌+◌, length}
use Rattle.std.specs.Prelude.{sum_by}
use Rattle.std.specs.List.{AllByRecursion}
use Rattle.row_model.specs.Bounds.{IsInBounds}
use Rattle.row_model.specs.Written.Sizes.{estimated_size, saturated_sum}
use Rattle.fleet_rows.specs.Row.{rows_of}
use Rattle.fleet_table.proofs.cutting.size_with.Given as goal

abbrev pub invariant-rest : goal.invariant-rest
invariant-rest l = record {
  in_bounds : AllByRecursion IsInBounds (rows_of l.rest);
  stopped : saturated_sum l.sum ≡ l.sum;
  size : saturated_sum (l.sum + sum_by estimated_size (rows_of l.rest)) ≡ saturated_sum (l.size + sum_by estimated_size (rows_of l.rows));
}

abbrev pub decreases-rest : goal.decreases-rest
decreases-rest l = length l.rest
