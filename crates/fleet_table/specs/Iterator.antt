-- The state of an iterator over a table's rows.
use Rattle.std.specs.Prelude.{List, [], Bool, Option, Some, None, true, if◌then◌else◌}
use Rattle.fleet_rows.specs.declared.errors.SlateDBError.TheVariants.{Memory}
use Rattle.row_model.specs.Rows.{Row}
use Rattle.fleet_iter.specs.Iteration.{IteratorState}

-- The rows that a table's iterator has left, and whether it failed for lack of memory.
pub record RowsLeft : Type 0 where
  pub left : List Row
  pub broken : Bool

-- A table's iterator as an iterator state. The iterator needs no init, and only running out of memory fails
-- it.
abbrev pub state_of : RowsLeft → IteratorState
state_of t = record {
  rows = t.left;
  initialised = true;
  failure = (if t.broken then Some Memory else None);
  whole = true;
  steady = true;
  refusal = None;
}

-- The rows that are left to be read. None are left where there is no table.
abbrev pub rows_left : Option (List Row) → List Row
rows_left None = []
rows_left (Some rows) = rows
