use Rattle.std.proofs.Common.{◌≡◌, ◌++◌, false, length}
use Rattle.fleet_iter.specs.Iteration.{from_key}
use Rattle.fleet_range.specs.Keys.{range_of}
use Rattle.fleet_table.specs.Run.{rows_of_tables}
use Rattle.fleet_table.proofs.run_data.seek_tables.Given as goal

abbrev pub invariant-tables : goal.invariant-tables
invariant-tables l =
    (from_key l.key l.current.left ≡ l.current.left)
    × (from_key l.key (l.current.left ++ rows_of_tables (range_of l.range) l.later.now) ≡ from_key l.key (l.fn.current.left ++ rows_of_tables (range_of l.range) l.fn.later.now))
    × (l.current.broken ≡ false)

abbrev pub decreases-tables : goal.decreases-tables
decreases-tables l = length l.later.now
