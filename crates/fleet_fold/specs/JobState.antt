-- The state of an iterator over a job's rows, and what holds inside it. It is retention over folded rows.
use Rattle.std.specs.Prelude.{ℕ, List}
use Rattle.row_model.specs.Fold.{Operator}
use Rattle.fleet_iter.specs.Iteration.{IteratorState}
use Rattle.fleet_fold.specs.declared.merging.MergeOperatorIterator.{MergeOperatorIterator}
use Rattle.fleet_fold.specs.declared.retention.RetentionIterator.{RetentionIterator}
use Rattle.fleet_fold.specs.Merging as merging
use Rattle.fleet_fold.specs.State as retention

abbrev pub state_of : {O T : Type 0} → (settings : O → List ℕ) (merged : List ℕ → Operator) (state : T → IteratorState)
    (job : RetentionIterator (MergeOperatorIterator O T)) → IteratorState
state_of settings merged state job = retention.state_of (merging.state_of settings merged state) job

abbrev pub IsSound : {O T : Type 0} → (settings : O → List ℕ) (merged : List ℕ → Operator) (sound : T → Type 0)
    (state : T → IteratorState) (job : RetentionIterator (MergeOperatorIterator O T)) → Type 0
IsSound settings merged sound state job =
    retention.IsSound (merging.IsSound settings merged sound state) (merging.state_of settings merged state) job
