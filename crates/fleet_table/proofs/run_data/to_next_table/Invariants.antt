use Rattle.std.proofs.Common.{◌≡◌, ◌++◌, length}
use Rattle.fleet_range.specs.Keys.{range_of}
use Rattle.fleet_table.specs.Run.{rows_of_tables}
use Rattle.fleet_table.proofs.run_data.to_next_table.Given as goal

abbrev pub invariant-tables : goal.invariant-tables
invariant-tables l =
    (l.current.left ++ rows_of_tables (range_of l.range) l.later.now ≡ l.fn.current.left ++ rows_of_tables (range_of l.range) l.fn.later.now)
    × (l.current.broken ≡ l.fn.current.broken)

abbrev pub decreases-tables : goal.decreases-tables
decreases-tables l = length l.later.now
