-- Taking rows that are left after a cursor.
use Rattle.std.specs.Prelude.{◌≡◌, ◌≢◌, ℕ, ◌≤◌, ◌<◌, Bool, true, length, List, [], ◌++◌, filter, Option, Some, None}
use Rattle.row_model.specs.Rows.{Row}
use Rattle.row_laws.specs.Resume.{Cursor, is_unwritten}
use Rattle.fleet_iter.specs.Iteration.{IteratorState, CanFail}
use Rattle.fleet_rows.specs.Row.{rows_of}
use Rattle.fleet_rows.specs.declared.row.RowEntry.{RowEntry}
use Rattle.fleet_rows.specs.declared.errors.SlateDBError.{SlateDBError}
use Rattle.fleet_rows.specs.declared.errors.SlateDBError.TheVariants.{Memory}
use Rattle.fleet_fold.specs.Retention.{IsReadable}

-- Whether a row is left: it has another key than the cursor, or it is older. Without a cursor every row is
-- left.
abbrev pub is_left : Option Cursor → Row → Bool
is_left None r = true
is_left (Some cursor) r = is_unwritten cursor r

-- The rows that are left after a cursor.
abbrev pub left_after : Option Cursor → List Row → List Row
left_after cursor rows = filter (is_left cursor) rows

-- Reading rows leaves an iterator readable. It changes neither whether the iterator is whole nor the refusal
-- after its rows.
pub record ReadsOn (old new : IteratorState) : Type 0 where
  pub readable : IsReadable new
  pub whole : new.whole ≡ old.whole
  pub refusal : new.refusal ≡ old.refusal

-- The first rows that are left are taken, at most `most`. If they are fewer than `most`, no row is left and
-- the iterator is whole.
pub record Takes (most : ℕ) (cursor : Option Cursor) (old : IteratorState) (taken : List RowEntry)
    (new : IteratorState) : Type 0 where
  pub rows : left_after cursor old.rows ≡ rows_of taken ++ left_after cursor new.rows
  pub few : length taken ≤ most
  pub reads : ReadsOn old new
  pub ends : length taken < most → (new.rows ≡ []) × (old.whole ≡ true)

-- Taking rows is refused with `e`. If the refusal after the rows is known, and `e` is not out of memory, `e`
-- is that refusal. Fewer than `most` rows are then left before it.
pub record RefusesTaking (most : ℕ) (cursor : Option Cursor) (old : IteratorState) (e : SlateDBError) : Type 0 where
  pub cause : CanFail old.whole e
  pub known : (after : SlateDBError) → old.refusal ≡ Some after → e ≢ Memory
      → (length (left_after cursor old.rows) < most) × (e ≡ after)
