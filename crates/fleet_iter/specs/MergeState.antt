-- The state of a merge, and what holds inside it.
use Rattle.std.specs.Prelude.{List, map}
use Rattle.std.specs.List.{AllByRecursion}
use Rattle.row_model.specs.Rows.{Row}
use Rattle.fleet_iter.specs.Iteration.{IteratorState}
use Rattle.fleet_iter.specs.Merge.{merging, merged_left, Fits}
use Rattle.fleet_iter.specs.declared.merge.MergeIterator.{MergeIterator}

-- All rows that a merge has left, in its order. With dedup this includes the rows that it will not give.
abbrev pub merge_of : {T : Type 0} → (T → IteratorState) → MergeIterator T → List Row
merge_of state m = merged_left m.heads.order m.heads.rows (map state m.sources.items)

abbrev pub state_of : {T : Type 0} → (T → IteratorState) → MergeIterator T → IteratorState
state_of state m = merging m.heads.order m.dedup m.initialised m.failure m.heads.rows (map state m.sources.items)

abbrev pub IsSound : {T : Type 0} → (T → Type 0) → (T → IteratorState) → MergeIterator T → Type 0
IsSound sound state m =
    AllByRecursion sound m.sources.items × Fits m.failure m.initialised m.heads.rows (map state m.sources.items)
