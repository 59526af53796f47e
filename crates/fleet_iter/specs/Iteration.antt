-- The state of an iterator over rows, and what its calls answer.
use Rattle.std.specs.Prelude.{◌≡◌, ◌≢◌, ℕ, List, [], ◌∷◌, Option, Some, None, Bool, true, false, Result, Ok, Err, not, ◌&&◌, if◌then◌else◌, ⊤}
use Rattle.std.specs.Ordering.{is_gt}
use Rattle.row_model.specs.Lists.{Pairs}
use Rattle.row_model.specs.Rows.{Row, key_cmp, IsStrictlyOrdered}
use Rattle.row_laws.specs.Keys.{is_below}
use Rattle.fleet_rows.specs.Row.{row_of}
use Rattle.fleet_rows.specs.declared.row.RowEntry.{RowEntry}
use Rattle.fleet_rows.specs.declared.errors.SlateDBError.{SlateDBError}
use Rattle.fleet_rows.specs.declared.errors.SlateDBError.TheVariants.{IteratorNotInitialized, IteratorFailed, Memory}

-- The state of an iterator as contracts see it.
pub record IteratorState : Type 0 where
  pub rows : List Row  -- the rows left
  pub initialised : Bool
  pub failure : Option SlateDBError  -- the error with which a call failed it
  pub whole : Bool  -- only running out of memory can keep it from giving all rows
  pub steady : Bool  -- what it gives of a row does not depend on earlier rows, so a seek leaves later rows as they are
  -- the error that comes after the rows, if it is known; an iterator that is not whole and of which none is
  -- known may refuse earlier
  pub refusal : Option SlateDBError

-- No call of the iterator has failed it.
pub record IsAlive (s : IteratorState) : Type 0 where
  pub alive : s.failure ≡ None

-- An iterator is exact if it is steady and whole. A seek of an exact iterator leaves exactly the rows from
-- its key on.
abbrev pub is_exact : IteratorState → Bool
is_exact s = s.steady && s.whole

-- An error with which an iterator may fail: neither `IteratorNotInitialized` nor `IteratorFailed`, and only
-- `Memory` if the iterator is whole.
pub record CanFail (whole : Bool) (e : SlateDBError) : Type 0 where
  pub initialised : e ≢ IteratorNotInitialized
  pub alive : e ≢ IteratorFailed
  pub memory : whole ≡ true → e ≡ Memory

-- The call failed the iterator with this error. If the flag is true, the error is `Memory`.
pub record Fails (whole : Bool) (new : IteratorState) (e : SlateDBError) : Type 0 where
  pub failed : new.failure ≡ Some e
  pub cause : CanFail whole e

-- If the error that comes after the rows is known, an error other than `Memory` is that one, and it comes
-- only when no row is left.
abbrev pub IsKnown : IteratorState → SlateDBError → Type 0
IsKnown s e = (after : SlateDBError) → s.refusal ≡ Some after → e ≢ Memory → (s.rows ≡ []) × (e ≡ after)

-- A call of `next` failed the iterator with this error.
pub record NextFails (old new : IteratorState) (e : SlateDBError) : Type 0 where
  pub failed : new.failure ≡ Some e
  pub cause : CanFail old.whole e
  pub known : IsKnown old e

-- An error other than `Memory` is the one with which the inner iterator failed.
abbrev pub IsHandedOn : IteratorState → SlateDBError → Type 0
IsHandedOn inner e = e ≢ Memory → inner.failure ≡ Some e

-- A call of an iterator that has not failed hands on the error of its inner iterator, unless the error is
-- `Memory` or `IteratorNotInitialized`.
abbrev pub HandsOn : {A : Type 0} → (old inner : IteratorState) (result : Result A SlateDBError) → Type 0
HandsOn old inner (Ok a) = ⊤
HandsOn old inner (Err e) = old.failure ≡ None → e ≢ IteratorNotInitialized → IsHandedOn inner e

-- A call of a failed iterator answers `IteratorFailed` and changes nothing.
pub record StaysFailed (A : Type 0) (old new : IteratorState) (result : Result A SlateDBError) : Type 0 where
  pub answer : result ≡ Err IteratorFailed
  pub same : new ≡ old

-- A call of an iterator that is not initialised answers `IteratorNotInitialized` and changes nothing.
pub record StaysUninitialised (A : Type 0) (old new : IteratorState) (result : Result A SlateDBError) : Type 0 where
  pub answer : result ≡ Err IteratorNotInitialized
  pub same : new ≡ old

abbrev pub InitAnswers : (old new : IteratorState) (result : Result (Unit {0}) SlateDBError) → Type 0
InitAnswers old new (Ok done) = new ≡ record old { initialised = true }
InitAnswers old new (Err e) = Fails old.whole new e

pub record Inits (old new : IteratorState) (result : Result (Unit {0}) SlateDBError) : Type 0 where
  pub failed : old.failure ≢ None → StaysFailed (Unit {0}) old new result
  pub answers : old.failure ≡ None → InitAnswers old new result

-- `next` ends the rows: no row is left, the iterator is whole, and nothing changes.
pub record Ends (old new : IteratorState) : Type 0 where
  pub rows : old.rows ≡ []
  pub whole : old.whole ≡ true
  pub same : new ≡ old

abbrev pub NextAnswers : (old new : IteratorState) (result : Result (Option RowEntry) SlateDBError) → Type 0
NextAnswers old new (Ok None) = Ends old new
NextAnswers old new (Ok (Some row)) = old ≡ record new { rows = row_of row ∷ new.rows }
NextAnswers old new (Err e) = NextFails old new e

pub record Nexts (old new : IteratorState) (result : Result (Option RowEntry) SlateDBError) : Type 0 where
  pub failed : old.failure ≢ None → StaysFailed (Option RowEntry) old new result
  pub uninitialised : old.failure ≡ None → old.initialised ≡ false → StaysUninitialised (Option RowEntry) old new result
  pub answers : old.failure ≡ None → old.initialised ≡ true → NextAnswers old new result

-- The rows after the first one. The empty list stays empty.
abbrev pub after_first : List Row → List Row
after_first [] = []
after_first (r ∷ rows) = rows

-- The rows from the first one on that does not pass the test.
abbrev pub without_first : (Row → Bool) → List Row → List Row
without_first test [] = []
without_first test (r ∷ rows) = if test r then without_first test rows else r ∷ rows

-- The rows from the first one on that is not below the key.
abbrev pub from_key : List ℕ → List Row → List Row
from_key key [] = []
from_key key (r ∷ rows) = if is_below key r then from_key key rows else r ∷ rows

-- Rows rise if no row has a lesser key than an earlier one.
abbrev pub AreRising : List Row → Type 0
AreRising rows = Pairs (λ r q. is_gt (key_cmp r.key q.key) ≡ false) rows

-- A test of whether rows rise. It compares each row with the next one.
abbrev pub are_rising : List Row → Bool
are_rising [] = true
are_rising (r ∷ []) = true
are_rising (r ∷ q ∷ rows) = not (is_gt (key_cmp r.key q.key)) && are_rising (q ∷ rows)

-- Strictly ordered rows rise.
abbrev pub OrderedRowsRise : Type 0
OrderedRowsRise = (rows : List Row) → IsStrictlyOrdered rows → AreRising rows

-- What is known after a seek of an iterator that is not exact. It may have passed rows that it would have
-- refused, and it may give other rows. So of the rows left it is only known that they rise.
pub record Passes (old new : IteratorState) : Type 0 where
  pub initialised : new.initialised ≡ old.initialised
  pub failure : new.failure ≡ old.failure
  pub rising : AreRising new.rows

-- What a seek leaves. If the flag is true, it drops exactly the rows below the key. If the flag is false, the
-- iterator is not exact, and of the rows left it is only known that they rise.
abbrev pub Moves : (exact : Bool) (key : List ℕ) (old new : IteratorState) → Type 0
Moves true key old new = new ≡ record old { rows = from_key key old.rows }
Moves false key old new = Passes old new

abbrev pub SeekAnswers : (key : List ℕ) (old new : IteratorState) (result : Result (Unit {0}) SlateDBError) → Type 0
SeekAnswers key old new (Ok done) = Moves (is_exact old) key old new
SeekAnswers key old new (Err e) = Fails (is_exact old) new e

-- What a seek leaves of an iterator that makes its rows from those of an inner one. The inner iterator is
-- sought, and the new state is made from the state that this leaves.
pub record SoughtThrough (sought : List ℕ → IteratorState → Type 0) (make : IteratorState → IteratorState)
    (inner : IteratorState) (key : List ℕ) (new : IteratorState) : Type 0 where
  pub left : IteratorState
  pub moves : Moves (is_exact inner) key inner left
  pub stated : sought key left
  pub made : new ≡ make left

pub record Seeks (key : List ℕ) (old new : IteratorState) (result : Result (Unit {0}) SlateDBError) : Type 0 where
  pub failed : old.failure ≢ None → StaysFailed (Unit {0}) old new result
  pub uninitialised : old.failure ≡ None → old.initialised ≡ false → StaysUninitialised (Unit {0}) old new result
  pub answers : old.failure ≡ None → old.initialised ≡ true → SeekAnswers key old new result

-- A call answers an error and keeps it as the iterator's failure. Keeping an error takes memory, so both may
-- be `Memory` in its place. `IteratorNotInitialized` fails no iterator.
pub record KeepsRefusal (e : SlateDBError) (old new : Option SlateDBError) (answer : SlateDBError) : Type 0 where
  pub kept : e ≢ IteratorNotInitialized → new ≡ Some answer
  pub same : answer ≢ Memory → answer ≡ e
  pub memory : e ≡ Memory → answer ≡ Memory
  pub early : e ≡ IteratorNotInitialized → (answer ≡ e) × (new ≡ old)
