-- Which jobs the size-tiered scheduler accepts, of the trees of a program.
use Rattle.std.specs.Prelude.{ℕ, ◌&&◌, Bool, true, false, List, bytes_eq, find, is_some, option_map, Option, Some, None}
use Rattle.fleet_model.specs.Work.Gates.{is_nonempty}
use Rattle.fleet_model.specs.Nodes.{NodeName}
use Rattle.fleet_model.specs.Sources.{older_nodes}
use Rattle.sched_model.specs.SizeTiered.{agree, lowest_run}
use Rattle.fleet_tree.specs.declared.tree.LsmTreeState.{LsmTreeState}
use Rattle.fleet_jobs.specs.Places.{nodes_in}
use Rattle.fleet_book.specs.declared.view.CompactorStateView.{CompactorStateView}
use Rattle.fleet_sched.specs.Views.{trees_in}

-- The tree of this segment, if it has one.
abbrev pub tree_found : List ℕ → CompactorStateView → Option LsmTreeState
tree_found segment state = option_map (λ s. s.1) (find (λ s. bytes_eq segment s.0) (trees_in state))

-- True if the sources are in the tree one after the other, and the destination is the lowest source run if a
-- run is a source.
abbrev pub stands_in_tree : List NodeName → Option ℕ → LsmTreeState → Bool
stands_in_tree sources destination tree =
    is_nonempty sources && is_some (older_nodes sources (nodes_in tree)) && agree (lowest_run sources) destination

-- True if the job with this destination and these sources is accepted, given the tree of its segment.
abbrev pub accepts : Option ℕ → List NodeName → Option LsmTreeState → Bool
accepts None sources tree = true
accepts (Some destination) sources None = false
accepts (Some destination) sources (Some tree) = stands_in_tree sources (Some destination) tree
