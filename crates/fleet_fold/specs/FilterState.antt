-- The state of a filtered iterator, and what holds inside it.
use Rattle.std.specs.Prelude.{◌≡◌, ◌≢◌, ℕ, List, Bool, true, false, Option, None, Result}
use Rattle.fleet_rows.specs.declared.row.RowEntry.{RowEntry}
use Rattle.fleet_rows.specs.declared.errors.SlateDBError.{SlateDBError}
use Rattle.fleet_iter.specs.Iteration.{IteratorState}
use Rattle.fleet_fold.specs.Filter.{Answers, Closing, filtered_rows, filtering, Refuses, KnowsUnlessFailed, SeeksFiltered}
use Rattle.fleet_fold.specs.declared.filtering.CompactionFilterIterator.{CompactionFilterIterator}

abbrev pub state_of : {T F : Type 0} → (state : T → IteratorState) (answers : F → Answers) (closing : F → Closing)
    (i : CompactionFilterIterator T F) → IteratorState
state_of state answers closing i = filtering i.failure i.ended (answers i.filter) (closing i.filter) (state i.inner)

abbrev pub IsSound : {T F : Type 0} → (sound : T → Type 0) (state : T → IteratorState) (closed : F → Bool)
    (i : CompactionFilterIterator T F) → Type 0
IsSound sound state closed i = sound i.inner × KnowsUnlessFailed i.failure i.ended (closed i.filter) (state i.inner)

-- What a seek of a filtered iterator leaves.
abbrev pub Sought : {T F : Type 0} → (state : T → IteratorState) (sought : T → List ℕ → IteratorState → Type 0)
    (answers : F → Answers) (closing : F → Closing) (i : CompactionFilterIterator T F) (key : List ℕ)
    (new : IteratorState) → Type 0
Sought state sought answers closing i key new =
    SeeksFiltered (sought i.inner) i.ended (answers i.filter) (closing i.filter) (state i.inner) key new

-- The filter of the iterator was closed.
abbrev pub IsClosed : {T F : Type 0} → (F → Bool) → CompactionFilterIterator T F → Type 0
IsClosed closed i = closed i.filter ≡ true

-- How the filter refuses a call of an iterator that is initialised, has not failed and has not ended. Unless
-- the inner iterator fails in the call, the answer is the filter's error exactly if the filter leaves no row
-- before that error. It may be `Memory` instead.
abbrev pub RefusesIn : {T F : Type 0} → (state : T → IteratorState) (answers : F → Answers) (closing : F → Closing)
    (old new : CompactionFilterIterator T F) (answer : Result (Option RowEntry) SlateDBError) → Type 0
RefusesIn state answers closing old new answer =
    old.failure ≡ None → old.ended ≡ false → (state old.inner).initialised ≡ true
    → Refuses (filtered_rows (answers old.filter) (closing old.filter) (state old.inner).rows)
    (state new.inner) answer

-- If the inner iterator fails in a call, the filter is not closed.
abbrev pub StaysOpen : {T F : Type 0} → (state : T → IteratorState) (closed : F → Bool)
    (old new : CompactionFilterIterator T F) → Type 0
StaysOpen state closed old new = old.failure ≡ None → (state new.inner).failure ≢ None → closed new.filter ≡ false
