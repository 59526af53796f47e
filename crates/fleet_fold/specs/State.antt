-- The state of a retention iterator, and what holds inside it.
use Rattle.std.specs.Prelude.{ℕ, List, reverse}
use Rattle.fleet_iter.specs.Iteration.{IteratorState}
use Rattle.fleet_fold.specs.declared.retention.RetentionIterator.{RetentionIterator}
use Rattle.fleet_rows.specs.Settings.{settings_of}
use Rattle.fleet_fold.specs.Retention.{retained_state, Knows, SeeksKept}

abbrev pub state_of : {T : Type 0} → (T → IteratorState) → RetentionIterator T → IteratorState
state_of state r = retained_state r.failure (settings_of r.settings) (reverse r.buffer.items) r.ahead (state r.inner)

abbrev pub IsSound : {T : Type 0} → (T → Type 0) → (T → IteratorState) → RetentionIterator T → Type 0
IsSound sound state r = sound r.inner × Knows r.failure (reverse r.buffer.items) r.ahead (state r.inner)

-- What a seek of a retention iterator leaves.
abbrev pub Sought : {T : Type 0} → (state : T → IteratorState) (sought : T → List ℕ → IteratorState → Type 0)
    (r : RetentionIterator T) (key : List ℕ) (new : IteratorState) → Type 0
Sought state sought r key new =
    SeeksKept (sought r.inner) (settings_of r.settings) (reverse r.buffer.items) r.ahead (state r.inner) key new
