use Rattle.std.proofs.Common.{◌≡◌, length}
use Rattle.row_model.specs.Rows.{are_ordered}
use Rattle.fleet_rows.specs.Row.{rows_of}
use Rattle.fleet_rows.proofs.order.are_strictly_ordered.Given as goal

abbrev pub invariant-rest : goal.invariant-rest
invariant-rest l = are_ordered (rows_of l.rest) ≡ are_ordered (rows_of l.rows)

abbrev pub decreases-rest : goal.decreases-rest
decreases-rest l = length l.rest
