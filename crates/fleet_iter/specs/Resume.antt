-- Rows after a cursor, which is the key and the sequence of the row that was written last.
use Rattle.std.specs.Prelude.{◌≡◌, ℕ, nat_le, ◌&&◌, bytes_eq, List, filter, Bool, true, false, Option, Some, None, ◌≢◌}
use Rattle.row_model.specs.Rows.{Row, IsStrictlyOrdered}
use Rattle.row_laws.specs.Keys.{is_from}
use Rattle.row_laws.specs.Resume.{Cursor, is_unwritten}
use Rattle.fleet_iter.specs.Iteration.{IteratorState, Passes, from_key, without_first}
use Rattle.fleet_rows.specs.declared.errors.SlateDBError.{SlateDBError}

-- Whether a row has the cursor's key and a sequence that is not below the cursor's. Such a row is written
-- already.
abbrev pub is_written : Cursor → Row → Bool
is_written cursor r = bytes_eq r.key cursor.0 && nat_le cursor.1 r.seq

-- The rows from the cursor's key on, without the first ones that are written already. Without a cursor these
-- are all rows.
abbrev pub rows_after : Option Cursor → List Row → List Row
rows_after None rows = rows
rows_after (Some cursor) rows = without_first (is_written cursor) (from_key cursor.0 rows)

-- What an iterator has left after a cursor. If the flag is false, the iterator is not exact, and it is only
-- known that the rows left rise.
abbrev pub Resumes : (exact : Bool) (cursor : Option Cursor) (old new : IteratorState) → Type 0
Resumes true cursor old new = new ≡ record old { rows = rows_after cursor old.rows }
Resumes false None old new = new ≡ old
Resumes false (Some cursor) old new = Passes old new

-- What a seek to the cursor's key leaves, without the first rows that are written already.
pub record SoughtAfter (sought : List ℕ → IteratorState → Type 0) (cursor : Cursor) (new : IteratorState) : Type 0 where
  pub left : IteratorState
  pub stated : sought cursor.0 left
  pub rows : new ≡ record left { rows = without_first (is_written cursor) left.rows }

abbrev pub ResumesBy : (sought : List ℕ → IteratorState → Type 0) (cursor : Option Cursor) (old new : IteratorState)
    → Type 0
ResumesBy sought None old new = new ≡ old
ResumesBy sought (Some cursor) old new = SoughtAfter sought cursor new

-- Resuming is refused with the error with which a call of the inner iterator failed it. There is a cursor, and
-- the failed iterator is what that call left.
pub record InnerFails {T : Type 0} (Sound : T → Type 0) (state : T → IteratorState) (cursor : Option Cursor)
    (e : SlateDBError) : Type 0 where
  pub sought : cursor ≢ None
  pub left : T
  pub sound : Sound left
  pub failed : (state left).failure ≡ Some e

-- Of strictly ordered rows, those after a cursor are exactly the rows from its key on that are not written
-- yet.
abbrev pub ResumesAfter : Type 0
ResumesAfter = (cursor : Cursor) (rows : List Row) → IsStrictlyOrdered rows
    → rows_after (Some cursor) rows ≡ filter (is_unwritten cursor) (filter (is_from cursor.0) rows)
