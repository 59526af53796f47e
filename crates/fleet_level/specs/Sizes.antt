-- The sizes of the tables of a program's trees.
use Rattle.std.specs.Prelude.{◌≡◌, ℕ, ◌==◌, List, find, flat_map, map, option_map, Option}
use Rattle.std.specs.BTreeMap.{BTreeMap, get}
use Rattle.std.specs.Option.{unwrap_or}
use Rattle.std.specs.Ordering.{nat_cmp}
use Rattle.fleet_model.specs.Handles.{Handle}
use Rattle.fleet_tree.specs.declared.handle.SsTableHandle.{SsTableHandle}
use Rattle.fleet_tree.specs.declared.run.SortedRun.{SortedRun}
use Rattle.fleet_tree.specs.declared.tree.LsmTreeState.{LsmTreeState}
use Rattle.fleet_sched.specs.Views.{tree_handles}

-- The size of the first of these tables with this id.
abbrev pub first_size : ℕ → List SsTableHandle → Option ℕ
first_size id tables = option_map (λ table. table.size) (find (λ table. table.id == id) tables)

-- The tables of these runs, run by run.
abbrev pub tables_of_runs : List SortedRun → List SsTableHandle
tables_of_runs runs = flat_map (λ run. map (λ view. view.sst) run.views) runs

-- The tables of these trees, tree by tree.
abbrev pub tables_of_trees : List (List ℕ × LsmTreeState) → List SsTableHandle
tables_of_trees trees = flat_map (λ s. tree_handles s.1) trees

-- The map has the sizes that these handles give. Of handles with one id the first counts.
pub record HasSizes (sizes : BTreeMap ℕ ℕ) (handles : List Handle) : Type 0 where
  pub size : (id : ℕ) → get nat_cmp sizes id ≡ option_map (λ h. h.size) (find (λ h. h.id == id) handles)

-- The size that the map has for this id, or 0 if it has none.
abbrev pub size_in : BTreeMap ℕ ℕ → ℕ → ℕ
size_in sizes id = unwrap_or (get nat_cmp sizes id) 0
