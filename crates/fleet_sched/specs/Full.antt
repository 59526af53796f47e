-- Specs that merge all runs of a tree of a program.
use Rattle.std.specs.Prelude.{ℕ, List, find, map, option_and_then, bytes_eq, Option, Some, None}
use Rattle.fleet_model.specs.Jobs.{JobSpec}
use Rattle.fleet_model.specs.Nodes.{Run}
use Rattle.fleet_model.specs.Work.Scheduler.{Generated, lowest_of, one_or_invalid}
use Rattle.fleet_tree.specs.declared.run.SortedRun.{SortedRun}
use Rattle.fleet_tree.specs.declared.tree.LsmTreeState.{LsmTreeState}
use Rattle.fleet_book.specs.declared.view.CompactorStateView.{CompactorStateView}
use Rattle.fleet_sched.specs.Views.{trees_in}

-- The spec that merges these runs of a segment into the given one, if one is given.
abbrev pub into_run : List ℕ → List SortedRun → Option ℕ → Option JobSpec
into_run segment runs None = None
into_run segment runs (Some lowest) =
    Some (record { segment = segment; sources = map (λ run. Run run.id) runs; destination = Some lowest })

-- The spec that merges all runs of a tree into the lowest one. It is None if the tree has no runs.
abbrev pub full_spec_in : List ℕ × LsmTreeState → Option JobSpec
full_spec_in s = into_run s.0 s.1.compacted (lowest_of (map (λ run. run.id) s.1.compacted))

-- The answer to a request to merge all runs of the tree of a segment.
abbrev pub segment_answer : List ℕ → CompactorStateView → Generated
segment_answer segment state =
    one_or_invalid (option_and_then full_spec_in (find (λ s. bytes_eq segment s.0) (trees_in state)))
