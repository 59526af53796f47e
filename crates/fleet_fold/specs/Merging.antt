-- The state of an iterator that merges operands, and what holds inside it.
use Rattle.std.specs.Prelude.{◌≡◌, ◌≢◌, ℕ, List, Option, Some, None, Result, Ok, Err, true, false, ◌&&◌, if◌then◌else◌, ⊤}
use Rattle.std.specs.Option.{is_none}
use Rattle.row_model.specs.Fold.{Operator}
use Rattle.row_model.specs.Rows.{Row}
use Rattle.fleet_iter.specs.Iteration.{IteratorState, AreRising, SoughtThrough}
use Rattle.fleet_iter.specs.Peek.{is_left}
use Rattle.fleet_rows.specs.declared.row.RowEntry.{RowEntry}
use Rattle.fleet_rows.specs.declared.errors.SlateDBError.{SlateDBError}
use Rattle.fleet_fold.specs.Retention.{from_ahead}
use Rattle.fleet_fold.specs.Folded.{folded_groups}
use Rattle.fleet_fold.specs.Groups.{RefusesNext}
use Rattle.fleet_fold.specs.declared.group.GroupRule.{GroupRule}
use Rattle.fleet_fold.specs.declared.merging.MergeOperatorIterator.{MergeOperatorIterator}

-- The state of an iterator that merges operands. Its rows are those that the groups become, up to the first
-- error.
abbrev pub merging : (failure : Option SlateDBError) (merge : Operator) (rule : GroupRule) (ahead : Option RowEntry)
    (inner : IteratorState) → IteratorState
merging failure merge rule ahead inner =
    let f = folded_groups merge rule (from_ahead ahead inner) in
    record {
      rows = f.rows;
      initialised = inner.initialised;
      failure = failure;
      whole = inner.whole && is_none f.refusal;
      steady = inner.steady;
      refusal = if inner.whole then f.refusal else None;
    }

-- Rows rise if a fold of them refuses. Where none does, they may fall.
abbrev pub RisesIfRefused : Operator → GroupRule → List Row → Type 0
RisesIfRefused merge rule rows = (folded_groups merge rule rows).refusal ≢ None → AreRising rows

-- What holds of the inner iterator until a call fails the outer one.
abbrev pub ReadsGroups : (merge : Operator) (rule : GroupRule) (failure : Option SlateDBError) (ahead : Option RowEntry)
    (inner : IteratorState) → Type 0
ReadsGroups merge rule (Some e) ahead inner = ⊤
ReadsGroups merge rule None ahead inner = (inner.failure ≡ None)
    × ((ahead ≡ None → ⊥) → inner.initialised ≡ true) × RisesIfRefused merge rule (from_ahead ahead inner)

abbrev pub state_of : {O T : Type 0} → (settings : O → List ℕ) (merged : List ℕ → Operator) (state : T → IteratorState)
    (i : MergeOperatorIterator O T) → IteratorState
state_of settings merged state i =
    merging i.failure (merged (settings i.operator.now)) i.rule i.ahead (state i.delegate)

abbrev pub IsSound : {O T : Type 0} → (settings : O → List ℕ) (merged : List ℕ → Operator) (sound : T → Type 0)
    (state : T → IteratorState) (i : MergeOperatorIterator O T) → Type 0
IsSound settings merged sound state i =
    sound i.delegate × ReadsGroups (merged (settings i.operator.now)) i.rule i.failure i.ahead (state i.delegate)

-- What a seek leaves. If a row was read ahead and is not below the key, nothing changes. Otherwise that row
-- is dropped, and the inner iterator is sought.
pub record SeeksGroups (sought : List ℕ → IteratorState → Type 0) (merge : Operator) (rule : GroupRule)
    (ahead : Option RowEntry) (inner : IteratorState) (key : List ℕ) (new : IteratorState) : Type 0 where
  pub stays : is_left key ahead ≡ true → new ≡ merging None merge rule ahead inner
  pub goes_on : is_left key ahead ≡ false → SoughtThrough sought (merging None merge rule None) inner key new

abbrev pub Sought : {O T : Type 0} → (settings : O → List ℕ) (merged : List ℕ → Operator) (state : T → IteratorState)
    (sought : T → List ℕ → IteratorState → Type 0) (i : MergeOperatorIterator O T) (key : List ℕ) (new : IteratorState)
    → Type 0
Sought settings merged state sought i key new =
    SeeksGroups (sought i.delegate) (merged (settings i.operator.now)) i.rule i.ahead (state i.delegate) key new

-- If the inner iterator failed in a call, its error is the error of the call. Otherwise that is the error of
-- the first group left. It may be `Memory` instead.
abbrev pub HandsOnOrRefuses : {O T A : Type 0} → (settings : O → List ℕ) (merged : List ℕ → Operator)
    (state : T → IteratorState) (old new : MergeOperatorIterator O T) (answer : Result A SlateDBError) → Type 0
HandsOnOrRefuses settings merged state old new (Ok a) = ⊤
HandsOnOrRefuses settings merged state old new (Err e) =
    old.failure ≡ None → (state old.delegate).initialised ≡ true
    → RefusesNext (merged (settings old.operator.now)) old.rule (from_ahead old.ahead (state old.delegate))
    (state old.delegate) (state new.delegate) e
