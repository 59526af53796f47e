-- What a filter leaves of rows that it is shown one after the other.
use Rattle.std.specs.Prelude.{◌≡◌, ◌≢◌, ℕ, List, [], ◌∷◌, ◌++◌, Option, Some, None, Bool, true, false, ◌&&◌, Result, Ok, Err, is_ok, if◌then◌else◌, ⊤}
use Rattle.row_model.specs.Rows.{Row, is_tombstone}
use Rattle.fleet_rows.specs.Row.{row_of, content_of}
use Rattle.fleet_rows.specs.Errors.{raised_by_filter}
use Rattle.fleet_rows.specs.declared.row.RowEntry.{RowEntry}
use Rattle.fleet_rows.specs.declared.row.ValueDeletable.{ValueDeletable}
use Rattle.fleet_rows.specs.declared.errors.CompactionFilterError.{CompactionFilterError}
use Rattle.fleet_rows.specs.declared.errors.CompactionFilterError.TheVariants as filter
use Rattle.fleet_rows.specs.declared.errors.SlateDBError.{SlateDBError}
use Rattle.fleet_rows.specs.declared.errors.SlateDBError.TheVariants.{CompactionFilter, Memory}
use Rattle.row_laws.specs.Resume.{Cursor}
use Rattle.fleet_iter.specs.Iteration.{IteratorState, AreRising, SoughtThrough, Moves, from_key, without_first}
use Rattle.fleet_iter.specs.Resume.{is_written}
use Rattle.fleet_fold.specs.declared.filter.CompactionFilterDecision.{CompactionFilterDecision}
use Rattle.fleet_fold.specs.declared.filter.CompactionFilterDecision.TheVariants.{Keep, Drop, Modify}

-- What a filter answers to a row, given the rows that it was shown before.
abbrev pub Answers : Type 0
Answers = List Row → Row → Result CompactionFilterDecision CompactionFilterError

-- What a filter answers when it is closed, given the rows that it was shown.
abbrev pub Closing : Type 0
Closing = List Row → Result (Unit {0}) CompactionFilterError

-- The answer is the stated one, or the error `Memory`.
abbrev pub IsStated : {A : Type 0} → (stated answer : Result A CompactionFilterError) → Type 0
IsStated stated answer = answer ≢ Err filter.Memory → answer ≡ stated

-- A filter was shown row `r`. It now answers to later rows, and when it is closed, what it would have
-- answered before for rows that begin with `r`.
pub record GoesOn (r : Row) (old : Answers) (closing : Closing) (new : Answers) (closing' : Closing) : Type 0 where
  pub rows : (seen : List Row) (q : Row) → new seen q ≡ old (r ∷ seen) q
  pub end : (seen : List Row) → closing' seen ≡ closing (r ∷ seen)

-- The row with another value. It keeps key, sequence and stamps, but a tombstone has no expiry.
abbrev pub modified_row : ValueDeletable → Row → Row
modified_row value r =
    record r { content = content_of value; expires = if is_tombstone (content_of value) then None else r.expires }

abbrev pub decided_rows : CompactionFilterDecision → Row → List Row
decided_rows Keep r = r ∷ []
decided_rows Drop r = []
decided_rows (Modify value) r = modified_row value r ∷ []

-- The rows that a filter leaves, up to the first row that it refuses. The end is `Ok`, or the error of that
-- row or of the closing.
pub record Filtered : Type 0 where
  pub rows : List Row
  pub end : Result (Unit {0}) CompactionFilterError

abbrev pub before_refused : Result CompactionFilterDecision CompactionFilterError → Row → Filtered → Filtered
before_refused (Ok decision) r later = record { rows = decided_rows decision r ++ later.rows; end = later.end }
before_refused (Err e) r later = record { rows = []; end = Err e }

abbrev pub filtered_rows : Answers → Closing → List Row → Filtered
filtered_rows answers closing [] = record { rows = []; end = closing [] }
filtered_rows answers closing (r ∷ rows) =
    before_refused (answers [] r) r (filtered_rows (λ seen. answers (r ∷ seen)) (λ seen. closing (r ∷ seen)) rows)

-- Whether the filter refuses no row and can be closed.
abbrev pub ends_well : Filtered → Bool
ends_well f = is_ok f.end

-- The state of a filtered iterator. If the filter was closed, no row is left.
abbrev pub filtering : (failure : Option SlateDBError) (ended : Bool) (answers : Answers) (closing : Closing)
    (inner : IteratorState) → IteratorState
filtering failure true answers closing inner = record {
  rows = [];
  initialised = inner.initialised;
  failure = failure;
  whole = true;
  steady = false;
  refusal = None;
}
filtering failure false answers closing inner =
    let f = filtered_rows answers closing inner.rows in
    record {
      rows = f.rows;
      initialised = inner.initialised;
      failure = failure;
      whole = inner.whole && ends_well f;
      steady = false;
      refusal = None;
    }

-- The call gives the next row that the filter leaves, or it closes the filter at the end of the rows.
abbrev pub Gives : (old : Filtered) (whole : Bool) (row : Option RowEntry) (new : Filtered) (closed : Bool)
    (inner : IteratorState) → Type 0
Gives old whole None new closed inner = (old.rows ≡ []) × (old.end ≡ Ok tt) × (whole ≡ true) × (closed ≡ true)
Gives old whole (Some row) new closed inner =
    (old ≡ record new { rows = row_of row ∷ new.rows }) × (inner.whole ≡ whole) × (closed ≡ false)

-- The filter leaves no row before it refuses, and the error is the one with which it refuses.
pub record IsFiltersRefusal (stated : Filtered) (e : SlateDBError) : Type 0 where
  pub rows : stated.rows ≡ []
  pub cause : CompactionFilterError
  pub end : stated.end ≡ Err cause
  pub same : e ≡ raised_by_filter cause

-- What a call answers if the inner iterator does not fail in it. It answers the filter's error exactly if the
-- filter leaves no row before that error. It may answer `Memory` instead.
pub record Refuses {A : Type 0} (stated : Filtered) (inner : IteratorState)
    (answer : Result A SlateDBError) : Type 0 where
  pub cause : (e : SlateDBError) → answer ≡ Err e → inner.failure ≡ None → e ≢ Memory → IsFiltersRefusal stated e
  pub comes : (e : CompactionFilterError) → stated.rows ≡ [] → stated.end ≡ Err e → inner.failure ≡ None
      → answer ≢ Err Memory → answer ≡ Err (raised_by_filter e)

-- What holds inside a filtered iterator until a call fails it.
pub record Knows (ended is_closed : Bool) (inner : IteratorState) : Type 0 where
  pub alive : inner.failure ≡ None
  pub rising : AreRising inner.rows
  pub closed : is_closed ≡ ended
  pub begun : ended ≡ true → inner.initialised ≡ true

abbrev pub KnowsUnlessFailed : (failure : Option SlateDBError) (ended is_closed : Bool) (inner : IteratorState) → Type 0
KnowsUnlessFailed (Some e) ended is_closed inner = ⊤
KnowsUnlessFailed None ended is_closed inner = Knows ended is_closed inner

-- What a seek leaves. If the filter was closed, no row is left. Otherwise the filter is shown the rows that
-- the seek leaves of the inner iterator, and not the rows that it drops.
pub record SeeksFiltered (sought : List ℕ → IteratorState → Type 0) (ended : Bool) (answers : Answers)
    (closing : Closing) (inner : IteratorState) (key : List ℕ) (new : IteratorState) : Type 0 where
  pub stays : ended ≡ true → new ≡ filtering None true answers closing inner
  pub goes_on : ended ≡ false → SoughtThrough sought (filtering None false answers closing) inner key new

-- An iterator that resumes after a cursor, over a filter, shows the filter all rows from the cursor's key on.
-- These include rows of that key that are written already. Of what the filter leaves, the first rows that are
-- written already are dropped.
abbrev pub FiltersSeeTheKey : Type 0
FiltersSeeTheKey = (answers : Answers) (closing : Closing) (inner left new : IteratorState) (cursor : Cursor)
    → Moves true cursor.0 inner left
    → new ≡ record (filtering None false answers closing left)
    { rows = without_first (is_written cursor) (filtering None false answers closing left).rows }
    → new.rows ≡ without_first (is_written cursor) (filtered_rows answers closing (from_key cursor.0 inner.rows)).rows
