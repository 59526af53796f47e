-- Walking over the rows that a scan has left, key after key.
use Rattle.std.specs.Prelude.{◌≡◌, ℕ, ◌<◌, Bool, true, not, ◌&&◌, List, [], ◌∷◌, ◌++◌, length, Option, Some, None}
use Rattle.std.specs.List.{cons_option}
use Rattle.std.specs.Option.{option_to_list}
use Rattle.row_model.specs.Rows.{Row, IsStrictlyOrdered}
use Rattle.row_model.specs.Fold.{Operator, Outcome}
use Rattle.fleet_iter.specs.Iteration.{IteratorState}
use Rattle.fleet_iter.specs.Merge.{begins_with}
use Rattle.fleet_fold.specs.Retention.{IsReadable}
use Rattle.fleet_rows.specs.Row.{rows_of}
use Rattle.fleet_rows.specs.declared.row.RowEntry.{RowEntry}
use Rattle.fleet_scan.specs.Answers.{answers_of, BeginsApart, HaveKey}
use Rattle.fleet_scan.specs.KeyRows.{Adds, is_hiding, parts_with}
use Rattle.fleet_scan.specs.declared.key_rows.KeyRows.{KeyRows}
use Rattle.fleet_scan.specs.declared.key_rows.ReadPoint.{ReadPoint}

-- An iterator whose rows can be read. Only running out of memory can keep it from giving all of them.
pub record IsReading (rows : IteratorState) : Type 0 where
  pub readable : IsReadable rows
  pub whole : rows.whole ≡ true

-- The first row is taken. Without one, no row is left.
pub record TakesFirst (old : IteratorState) (first : Option RowEntry) (new : IteratorState) : Type 0 where
  pub rows : old.rows ≡ rows_of (option_to_list first) ++ new.rows
  pub reading : IsReading new
  pub ends : first ≡ None → new.rows ≡ []

-- Whether the next row has the key of the rows taken, and none of them hides it.
abbrev pub takes_more : KeyRows → List Row → Bool
takes_more taken rows = not (is_hiding taken.ground) && begins_with taken.key rows

-- The next row is taken.
pub record TakesRow (point : ReadPoint) (taken : KeyRows) (old : IteratorState) (more : KeyRows)
    (new : IteratorState) : Type 0 where
  pub row : Row
  pub rows : old.rows ≡ row ∷ new.rows
  pub adds : Adds point taken row more
  pub reading : IsReading new

-- Some rows of a key are taken, and the others are still to be read.
pub record TakesSoFar (point : ReadPoint) (taken : KeyRows) (old : IteratorState) (more : KeyRows)
    (new : IteratorState) : Type 0 where
  pub here : List Row
  pub rows : old.rows ≡ here ++ new.rows
  pub of_key : HaveKey taken.key here
  pub key : more.key ≡ taken.key
  pub parts : (later : List Row) → parts_with point more later ≡ parts_with point taken (here ++ later)

-- The other rows of a key are taken, or some of them, and the others are dropped, which they hide.
pub record TakesKey (point : ReadPoint) (taken : KeyRows) (old : IteratorState) (all : KeyRows)
    (new : IteratorState) : Type 0 where
  pub here : List Row
  pub rows : old.rows ≡ here ++ new.rows
  pub of_key : HaveKey taken.key here
  pub ended : BeginsApart taken.key new.rows
  pub key : all.key ≡ taken.key
  pub parts : parts_with point all [] ≡ parts_with point taken here
  pub reading : IsReading new

-- The answer of the first key of some rows is given, if it has one, and later rows are left.
pub record GivesKey (merge : Operator) (point : ReadPoint) (rows : List Row) (answer : Option (List ℕ × Outcome))
    (new : IteratorState) : Type 0 where
  pub answers : answers_of merge point.seq point.moment rows
      ≡ cons_option answer (answers_of merge point.seq point.moment new.rows)
  pub ordered : IsStrictlyOrdered new.rows
  pub fewer : length new.rows < length rows
  pub reading : IsReading new

-- The first answer of some rows is given, and later rows are left. Without an answer, no row is left.
pub record Gives (merge : Operator) (point : ReadPoint) (rows : List Row) (answer : Option (List ℕ × Outcome))
    (new : IteratorState) : Type 0 where
  pub answers : answers_of merge point.seq point.moment rows
      ≡ cons_option answer (answers_of merge point.seq point.moment new.rows)
  pub ordered : IsStrictlyOrdered new.rows
  pub ends : answer ≡ None → new.rows ≡ []
  pub reading : IsReading new
