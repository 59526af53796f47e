-- Iterators that may have read a row ahead.
use Rattle.std.specs.Prelude.{◌≡◌, ◌≢◌, ℕ, Bool, List, [], ◌∷◌, ◌++◌, Option, Some, None, true, false, not, Result, Ok, Err, ⊤}
use Rattle.std.specs.Borrow.{Bor}
use Rattle.std.specs.Option.{option_to_list, option_copied}
use Rattle.row_laws.specs.Keys.{is_below}
use Rattle.fleet_rows.specs.Row.{row_of, rows_of}
use Rattle.fleet_rows.specs.declared.row.RowEntry.{RowEntry}
use Rattle.fleet_rows.specs.declared.errors.SlateDBError.{SlateDBError}
use Rattle.fleet_rows.specs.declared.errors.SlateDBError.TheVariants.{IteratorNotInitialized, IteratorFailed}
use Rattle.fleet_iter.specs.Iteration.{IteratorState, CanFail, IsKnown, NextFails, Ends, StaysFailed, StaysUninitialised, after_first}

-- The state of an iterator with the row that was read ahead put back in front.
abbrev pub ahead : Option RowEntry → IteratorState → IteratorState
ahead row s = record s { rows = rows_of (option_to_list row) ++ s.rows }

-- If a row was read ahead, the iterator is initialised and has not failed.
abbrev pub HasBegun : Option RowEntry → IteratorState → Type 0
HasBegun None s = ⊤
HasBegun (Some row) s = (s.failure ≡ None) × (s.initialised ≡ true)

-- Whether a row was read ahead and is not below the key, so that a seek to the key leaves it.
abbrev pub is_left : List ℕ → Option RowEntry → Bool
is_left key None = false
is_left key (Some row) = not (is_below key (row_of row))

-- What a seek leaves. If it leaves the row that was read ahead, the inner iterator is unchanged. Otherwise
-- that row is dropped, if there is one, and the inner iterator is sought.
pub record SeeksAhead (sought : List ℕ → IteratorState → Type 0) (row : Option RowEntry)
    (inner : IteratorState) (key : List ℕ) (new : IteratorState) : Type 0 where
  pub stays : is_left key row ≡ true → new ≡ ahead row inner
  pub goes_on : is_left key row ≡ false → sought key new

-- The row is the first one left, and nothing changes.
pub record Shows (row : RowEntry) (old new : IteratorState) : Type 0 where
  pub first : old.rows ≡ row_of row ∷ after_first old.rows
  pub same : new ≡ old

abbrev pub PeekAnswers : (old new : IteratorState) (result : Result (Option RowEntry) SlateDBError) → Type 0
PeekAnswers old new (Ok None) = Ends old new
PeekAnswers old new (Ok (Some row)) = Shows row old new
PeekAnswers old new (Err e) = NextFails old new e

pub record Peeks (old new : IteratorState) (result : Result (Option RowEntry) SlateDBError) : Type 0 where
  pub failed : old.failure ≢ None → StaysFailed (Option RowEntry) old new result
  pub uninitialised : old.failure ≡ None → old.initialised ≡ false → StaysUninitialised (Option RowEntry) old new result
  pub answers : old.failure ≡ None → old.initialised ≡ true → PeekAnswers old new result

-- What an answer of `peek` says of the state before the call. The state after it cannot be stated while the
-- row that is shown is borrowed.
abbrev pub LookAnswers : IteratorState → Result (Option RowEntry) SlateDBError → Type 0
LookAnswers s (Ok None) = (s.rows ≡ []) × (s.whole ≡ true)
LookAnswers s (Ok (Some row)) = s.rows ≡ row_of row ∷ after_first s.rows
LookAnswers s (Err e) = CanFail s.whole e × IsKnown s e

pub record Looks (s : IteratorState) (result : Result (Option RowEntry) SlateDBError) : Type 0 where
  pub failed : s.failure ≢ None → result ≡ Err IteratorFailed
  pub uninitialised : s.failure ≡ None → s.initialised ≡ false → result ≡ Err IteratorNotInitialized
  pub answers : s.failure ≡ None → s.initialised ≡ true → LookAnswers s result

-- An answer with the row that it shows by value.
abbrev pub shown_row : Result (Option (Bor RowEntry)) SlateDBError → Result (Option RowEntry) SlateDBError
shown_row (Ok row) = Ok (option_copied row)
shown_row (Err e) = Err e

-- The answer of a look ahead: the row that was read ahead, or the error.
abbrev pub filled_row : Result (Unit {0}) SlateDBError → Option RowEntry → Result (Option RowEntry) SlateDBError
filled_row (Ok done) row = Ok row
filled_row (Err e) row = Err e
