-- The trees of a program with the sizes of their nodes.
use Rattle.std.specs.Prelude.{ℕ, List, [], ◌∷◌, map}
use Rattle.fleet_model.specs.Jobs.{Jobs}
use Rattle.sched_model.specs.Picks.{Planned}
use Rattle.sched_model.specs.Sizes.{Sized, SizedTree}
use Rattle.sched_model.specs.SizeTiered.{unplanned_tree}
use Rattle.fleet_tree.specs.Sizes.{run_size}
use Rattle.fleet_tree.specs.Views.{View}
use Rattle.fleet_tree.specs.declared.run.SortedRun.{SortedRun}
use Rattle.fleet_tree.specs.declared.tree.LsmTreeState.{LsmTreeState}

-- A flush with the size of its table.
abbrev pub flush_in : View → Sized
flush_in view = record { id = view.id; size = run_size (view ∷ []) }

-- A run with the size of its tables.
abbrev pub run_in : SortedRun → Sized
run_in run = record { id = run.id; size = run_size run.views }

-- A tree of a segment with the sizes of its nodes.
abbrev pub tree_in : List ℕ × LsmTreeState → SizedTree
tree_in s = record { segment = s.0; flushes = map flush_in s.1.l0; runs = map run_in s.1.compacted }

-- The trees before the first pick. The jobs use their nodes.
abbrev pub planned_in : Jobs → List (List ℕ × LsmTreeState) → List Planned
planned_in jobs trees = map (λ s. unplanned_tree jobs (tree_in s)) trees
