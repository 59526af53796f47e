-- Iterators for rows that have no merge operator, so that operands are refused.
use Rattle.std.specs.Prelude.{◌≡◌, ◌≢◌, ℕ, List, [], ◌∷◌, Option, Some, None, Bool, true, false, not, ◌&&◌, Result, Err, if◌then◌else◌, ⊤}
use Rattle.row_model.specs.Rows.{Row, is_operand}
use Rattle.fleet_iter.specs.Iteration.{IteratorState, AreRising, IsHandedOn, SoughtThrough}
use Rattle.fleet_rows.specs.declared.row.RowEntry.{RowEntry}
use Rattle.fleet_rows.specs.declared.errors.SlateDBError.{SlateDBError}
use Rattle.fleet_rows.specs.declared.errors.SlateDBError.TheVariants.{MergeOperatorMissing}
use Rattle.fleet_fold.specs.declared.required_operator.MergeOperatorRequiredIterator.{MergeOperatorRequiredIterator}

-- The rows before the first operand.
abbrev pub before_operand : List Row → List Row
before_operand [] = []
before_operand (r ∷ rows) = if is_operand r then [] else r ∷ before_operand rows

abbrev pub has_operand : List Row → Bool
has_operand [] = false
has_operand (r ∷ rows) = if is_operand r then true else has_operand rows

-- The state of an iterator that gives the rows before the first operand, and then refuses that operand.
abbrev pub without_operands : Option SlateDBError → IteratorState → IteratorState
without_operands failure inner =
    record {
      rows = before_operand inner.rows;
      initialised = inner.initialised;
      failure = failure;
      whole = inner.whole && not (has_operand inner.rows);
      steady = inner.steady;
      refusal = if inner.whole && has_operand inner.rows then Some MergeOperatorMissing else None;
    }

-- What holds of the inner iterator until a call fails the outer one.
abbrev pub ReadsPlain : Option SlateDBError → IteratorState → Type 0
ReadsPlain (Some e) inner = ⊤
ReadsPlain None inner = (inner.failure ≡ None) × AreRising inner.rows

abbrev pub state_of : {T : Type 0} → (T → IteratorState) → MergeOperatorRequiredIterator T → IteratorState
state_of state r = without_operands r.failure (state r.delegate)

abbrev pub IsSound : {T : Type 0} → (T → Type 0) → (T → IteratorState) → MergeOperatorRequiredIterator T → Type 0
IsSound sound state r = sound r.delegate × ReadsPlain r.failure (state r.delegate)

abbrev pub starts_with_operand : List Row → Bool
starts_with_operand [] = false
starts_with_operand (r ∷ rows) = is_operand r

-- `next` answers `MergeOperatorMissing` exactly if the next row is an operand, unless the inner iterator
-- fails in this call. Any other error is handed on from the inner iterator.
pub record MissesOperator (rows : List Row) (old inner : IteratorState)
    (answer : Result (Option RowEntry) SlateDBError) : Type 0 where
  pub cause : answer ≡ Err MergeOperatorMissing → inner.failure ≡ None → starts_with_operand rows ≡ true
  pub handed : old.failure ≡ None → old.initialised ≡ true → (e : SlateDBError) → answer ≡ Err e
      → e ≢ MergeOperatorMissing → IsHandedOn inner e
  pub comes : old.failure ≡ None → old.initialised ≡ true → inner.failure ≡ None
      → starts_with_operand rows ≡ true → answer ≡ Err MergeOperatorMissing

-- What a seek of an iterator that refuses operands leaves.
abbrev pub Sought : {T : Type 0} → (state : T → IteratorState) (sought : T → List ℕ → IteratorState → Type 0)
    (r : MergeOperatorRequiredIterator T) (key : List ℕ) (new : IteratorState) → Type 0
Sought state sought r key new = SoughtThrough (sought r.delegate) (without_operands None) (state r.delegate) key new
