use Rattle.std.proofs.Common.{◌≡◌, length}
use Rattle.fleet_iter.specs.Iteration.{are_rising}
use Rattle.fleet_rows.specs.Row.{rows_of}
use Rattle.fleet_iter.proofs.rising.are_rising.Given as goal

abbrev pub invariant-rest : goal.invariant-rest
invariant-rest l = are_rising (rows_of l.rest) ≡ are_rising (rows_of l.rows)

abbrev pub decreases-rest : goal.decreases-rest
decreases-rest l = length l.rest
