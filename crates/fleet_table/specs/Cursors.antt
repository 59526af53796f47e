-- Where the rows of a table stand in its bytes, and places among them.
use Rattle.std.specs.Prelude.{◌≡◌, ◌≤◌, ◌<◌, ℕ, ◌+◌, ◌-◌, nat_lt, Bool, true, false, List, [], ◌∷◌, ◌++◌, length, take, drop, Option, Some, None}
use Rattle.std.specs.List.{flat_map}
use Rattle.std.specs.declared.cmp.Ordering.{Ordering}
use Rattle.std.specs.declared.cmp.Ordering.TheVariants.{Less, Equal, Greater}
use Rattle.row_model.specs.Rows.{Row, key_cmp}
use Rattle.row_model.specs.Written.TableBytes.{blocks_of_rows, row_bytes, rows_bytes, table_bytes}
use Rattle.fleet_rows.specs.Row.{row_of}
use Rattle.fleet_rows.specs.declared.row.RowEntry.{RowEntry}
use Rattle.fleet_block.specs.Finds.{joined_rows}
use Rattle.fleet_table.specs.declared.cursor.Cursor.{Cursor}
use Rattle.fleet_table.specs.declared.cursor.Ties.{Ties}
use Rattle.fleet_table.specs.declared.cursor.Ties.TheVariants.{After, Before, Newer}

-- ---- places among rows

abbrev pub passes_tie : Ties → ℕ → Bool
passes_tie After seq = false
passes_tie Before seq = true
passes_tie (Newer most) seq = nat_lt most seq

-- How a row's key compares with a spot's key tells whether the row is before the spot. If the keys are equal,
-- the ties decide.
abbrev pub before_by : Ordering → Ties → ℕ → Bool
before_by Less ties seq = true
before_by Equal ties seq = passes_tie ties seq
before_by Greater ties seq = false

abbrev pub is_before_spot : List ℕ → Ties → Row → Bool
is_before_spot key ties r = before_by (key_cmp r.key key) ties r.seq

-- ---- rows in bytes

-- The number of rows in the blocks before this one.
abbrev pub rows_before : ℕ → List Row → ℕ
rows_before block rows = length (joined_rows (take block (blocks_of_rows 0 rows)))

-- The key after which the next row of a block is written, if these rows of the block are before it.
abbrev pub key_after : List Row → List ℕ
key_after [] = []
key_after (r ∷ rows) = r.key

-- A row, where it stands among the blocks, and what stands at the cursor: the row, the later rows of its
-- block, and the blocks after it.
pub record StandsAt (rows : List Row) (cursor : Cursor) : Type 0 where
  pub before : List (List Row)
  pub front : List Row
  pub here : Row
  pub later : List Row
  pub after : List (List Row)
  pub all : blocks_of_rows 0 rows ≡ before ++ (front ++ here ∷ later) ∷ after
  pub block : cursor.block ≡ length before
  pub row : cursor.row ≡ length (joined_rows before) + length front
  pub place : drop cursor.place (table_bytes rows) ≡ row_bytes (key_after front) here
      ++ (flat_map (row_bytes (key_after (front ++ here ∷ []))) later ++ flat_map rows_bytes after)

-- The cursor is at a row, or after all rows.
abbrev pub IsCursor : List Row → Cursor → Type 0
IsCursor rows cursor = (cursor.row ≤ length rows) × (cursor.row < length rows → StandsAt rows cursor)

-- The rows from one place up to another.
abbrev pub rows_between : (start end : ℕ) (rows : List Row) → List Row
rows_between start end rows = take (end - start) (drop start rows)

-- The first of the old rows was taken, if there is one.
abbrev pub Takes : (old new : List Row) (row : Option RowEntry) → Type 0
Takes old new None = (old ≡ []) × (new ≡ [])
Takes old new (Some row) = old ≡ row_of row ∷ new
