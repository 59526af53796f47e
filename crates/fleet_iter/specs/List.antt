-- Iterators that hold all their rows.
use Rattle.std.specs.Prelude.{ℕ, List, None, true}
use Rattle.row_model.specs.Rows.{Row}
use Rattle.fleet_iter.specs.Iteration.{IteratorState}

-- A list iterator as contracts see it: the rows left, and the bytes of the rows that it has given.
pub record Listed : Type 0 where
  pub rows : List Row
  pub processed : ℕ

-- The state of an iterator with these rows left that needs no `init` and never fails.
abbrev pub left_state : List Row → IteratorState
left_state rows =
    record { rows = rows; initialised = true; failure = None; whole = true; steady = true; refusal = None }

abbrev pub giving_state : Listed → IteratorState
giving_state l = left_state l.rows
