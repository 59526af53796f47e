-- The state of a resumed iterator, and what holds inside it.
use Rattle.std.specs.Prelude.{ℕ, List}
use Rattle.fleet_iter.specs.Iteration.{IteratorState}
use Rattle.fleet_iter.specs.PeekState as peek
use Rattle.fleet_iter.specs.declared.resuming.ResumingIterator.{ResumingIterator}

abbrev pub state_of : {T : Type 0} → (T → IteratorState) → ResumingIterator T → IteratorState
state_of state r = peek.state_of state r.inner

abbrev pub IsSound : {T : Type 0} → (T → Type 0) → (T → IteratorState) → ResumingIterator T → Type 0
IsSound sound state r = peek.IsSound sound state r.inner

-- What a seek of a resumed iterator leaves.
abbrev pub Sought : {T : Type 0} → (state : T → IteratorState) (sought : T → List ℕ → IteratorState → Type 0)
    (r : ResumingIterator T) (key : List ℕ) (new : IteratorState) → Type 0
Sought state sought r key new = peek.Sought state sought r.inner key new
