use Rattle.std.proofs.Common.{◌≡◌, vec_len}
use Rattle.std.specs.Prelude.{reverse}
use Rattle.fleet_rows.specs.Row.{rows_of}
use Rattle.fleet_iter.specs.Iteration.{from_key}
use Rattle.fleet_iter.proofs.list.ListIteratorRowEntryIterator.seek.Given as goal

abbrev pub invariant-below : goal.invariant-below
invariant-below l = (l.self-inside.processed ≡ l.fn.self.processed) × (from_key l.next_key (rows_of (reverse l.self-inside.rows.items)) ≡ from_key l.next_key l.fn.self.rows)

abbrev pub decreases-below : goal.decreases-below
decreases-below l = vec_len l.self-inside.rows
