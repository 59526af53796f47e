use Rattle.std.proofs.Common.{◌≡◌, ◌++◌, length}
use Rattle.fleet_rows.specs.Row.{rows_of}
use Rattle.fleet_table.proofs.table.TableData.to_rows.Given as goal

abbrev pub invariant-left : goal.invariant-left
invariant-left l = rows_of l.rows.items ++ l.left ≡ l.self

abbrev pub decreases-left : goal.decreases-left
decreases-left l = length l.left
