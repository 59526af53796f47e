-- The sizes of a program's nodes, as the model finds them by the handles of its view.
use Rattle.std.proofs.Common.{◌≡◌, refl, sym, ◌∙◌, ap, ℕ, suc, ◌+◌, List, [], ◌∷◌, ◌++◌, append_assoc, length, map, take, drop, arith}
use Rattle.std.specs.Prelude.{flat_map, sum_by}
use Rattle.std.specs.List.{filter_map}
use Rattle.std.proofs.Math.Seq.{take-append_seam, drop-append_seam}
use Rattle.std.proofs.lemmas.List.{map-append, length-append}
use Rattle.std.proofs.lemmas.List.Sums.{sum_by-cons}
use Rattle.row_model.specs.Written.Sizes.{saturated_sum}
use Rattle.fleet_model.specs.Handles.{Handle, tree_tables}
use Rattle.fleet_model.specs.Nodes.{NodeName, L0, Run, Node}
use Rattle.sched_model.specs.Sizes.{Sized, SizedTree, sized_flush, sized_nodes, sized_run, sized_tree, sized_trees, tables_size}
use Rattle.fleet_tree.specs.Handles.{handle_of}
use Rattle.fleet_tree.specs.Sizes.{run_size}
use Rattle.fleet_tree.specs.Trees.{RunFlushes, flush_node, run_node, tree_of, segment_of}
use Rattle.fleet_tree.specs.Views.{View}
use Rattle.fleet_tree.specs.declared.run.SortedRun.{SortedRun}
use Rattle.fleet_tree.specs.declared.tree.LsmTreeState.{LsmTreeState}
use Rattle.fleet_book.specs.declared.view.CompactorStateView.{CompactorStateView}
use Rattle.fleet_sched.specs.Sizes.{flush_in, run_in, tree_in}
use Rattle.fleet_jobs.specs.Jobs.{job_handles}
use Rattle.fleet_sched.specs.Views.{handles_in, open_records, tree_handles, trees_in}

-- The handles of the tables of these views.
abbrev handles_of : List View → List Handle
handles_of views = map handle_of (map (λ view. view.sst) views)

-- The handles of the tables of these runs.
abbrev runs_handles : List SortedRun → List Handle
runs_handles runs = map handle_of (flat_map (λ run. map (λ view. view.sst) run.views) runs)

-- The handles of the tables of a tree.
abbrev handles_of_tree : LsmTreeState → List Handle
handles_of_tree tree = map handle_of (tree_handles tree)

as_many : (views : List View) → length (map (λ view. view.sst.id) views) ≡ length (handles_of views)
as_many [] = refl
as_many (view ∷ views) = ap (λ n. suc n) (as_many views)

sum_of : (views : List View) → sum_by (λ h. h.size) (handles_of views) ≡ sum_by (λ view. view.sst.size) views
sum_of [] = refl
sum_of (view ∷ views) =
    sum_by-cons (λ h. h.size) (handle_of view.sst) (handles_of views) ∙ ap (λ n. view.sst.size + n) (sum_of views) ∙ sym (sum_by-cons (λ v. v.sst.size) view views)

-- The tables of these views have the size of a run of them.
size_of : (views : List View) → tables_size (handles_of views) ≡ run_size views
size_of views = ap saturated_sum (sum_of views)

-- The first handles are those of the first views.
first_views : (views : List View) (more : List Handle) → take (length (map (λ view. view.sst.id) views)) (handles_of views ++ more) ≡ handles_of views
first_views views more = ap (λ n. take n (handles_of views ++ more)) (as_many views) ∙ take-append_seam (handles_of views) more

other_views : (views : List View) (more : List Handle) → drop (length (map (λ view. view.sst.id) views)) (handles_of views ++ more) ≡ more
other_views views more = ap (λ n. drop n (handles_of views ++ more)) (as_many views) ∙ drop-append_seam (handles_of views) more

-- The names and sizes of flushes and of runs.
abbrev flush_with_size : View → NodeName × ℕ
flush_with_size view = (L0 view.id, run_size (view ∷ []))

abbrev run_with_size : SortedRun → NodeName × ℕ
run_with_size run = (Run run.id, run_size run.views)

module _ (flushes : ℕ → List ℕ) where
  split_runs : (run : SortedRun) (runs : List SortedRun) (more : List Handle) → runs_handles (run ∷ runs) ++ more ≡ handles_of run.views ++ (runs_handles runs ++ more)
  split_runs run runs more =
      ap (λ l. l ++ more) (map-append handle_of (map (λ (view : View). view.sst) run.views) (flat_map (λ (r : SortedRun). map (λ (view : View). view.sst) r.views) runs))
      ∙ append_assoc (handles_of run.views) (runs_handles runs) more

  sized_runs : (runs : List SortedRun) (more : List Handle) → sized_nodes (runs_handles runs ++ more) (map (run_node flushes) runs) ≡ map run_with_size runs
  sized_runs [] more = refl
  sized_runs (run ∷ runs) more =
      ap (λ l. sized_nodes l (map (run_node flushes) (run ∷ runs))) (split_runs run runs more)
      ∙ ap (λ l. (Run run.id, tables_size l) ∷ sized_nodes (drop (length (map (λ view. view.sst.id) run.views)) (handles_of run.views ++ (runs_handles runs ++ more))) (map (run_node flushes) runs)) (first_views run.views (runs_handles runs ++ more))
      ∙ ap (λ l. (Run run.id, tables_size (handles_of run.views)) ∷ sized_nodes l (map (run_node flushes) runs)) (other_views run.views (runs_handles runs ++ more))
      ∙ ap (λ n. (Run run.id, n) ∷ sized_nodes (runs_handles runs ++ more) (map (run_node flushes) runs)) (size_of run.views)
      ∙ ap (λ l. run_with_size run ∷ l) (sized_runs runs more)

  sized_in : (l0 : List View) (runs : List SortedRun) (more : List Handle)
      → sized_nodes ((handles_of l0 ++ runs_handles runs) ++ more) (map (flush_node flushes) l0 ++ map (run_node flushes) runs) ≡ map flush_with_size l0 ++ map run_with_size runs
  sized_in [] runs more = sized_runs runs more
  sized_in (view ∷ l0) runs more = ap (λ l. flush_with_size view ∷ l) (sized_in l0 runs more)

  split_tree : (tree : LsmTreeState) (more : List Handle) → handles_of_tree tree ++ more ≡ (handles_of tree.l0 ++ runs_handles tree.compacted) ++ more
  split_tree tree more = ap (λ l. l ++ more) (map-append handle_of (map (λ (view : View). view.sst) tree.l0) (flat_map (λ (r : SortedRun). map (λ (view : View). view.sst) r.views) tree.compacted))

  flushes_first : (l0 : List View) (runs : List SortedRun) → filter_map sized_flush (map flush_with_size l0 ++ map run_with_size runs) ≡ map flush_in l0
  flushes_first [] [] = refl
  flushes_first [] (run ∷ runs) = flushes_first [] runs
  flushes_first (view ∷ l0) runs = ap (λ l. flush_in view ∷ l) (flushes_first l0 runs)

  runs_last : (l0 : List View) (runs : List SortedRun) → filter_map sized_run (map flush_with_size l0 ++ map run_with_size runs) ≡ map run_in runs
  runs_last [] [] = refl
  runs_last [] (run ∷ runs) = ap (λ l. run_in run ∷ l) (runs_last [] runs)
  runs_last (view ∷ l0) runs = runs_last l0 runs

  -- The sizes of a tree's nodes.
  sized_tree_is : (s : List ℕ × LsmTreeState) (more : List Handle) → sized_tree s.0 (sized_nodes (handles_of_tree s.1 ++ more) (tree_of flushes s.1)) ≡ tree_in s
  sized_tree_is s more =
      ap (λ l. sized_tree s.0 (sized_nodes l (tree_of flushes s.1))) (split_tree s.1 more)
      ∙ ap (sized_tree s.0) (sized_in s.1.l0 s.1.compacted more)
      ∙ ap (λ (l : List Sized). record { segment = s.0; flushes = l; runs = filter_map sized_run (map flush_with_size s.1.l0 ++ map run_with_size s.1.compacted) }) (flushes_first s.1.l0 s.1.compacted)
      ∙ ap (λ (l : List Sized). record { segment = s.0; flushes = map flush_in s.1.l0; runs = l }) (runs_last s.1.l0 s.1.compacted)

  tables_of_runs : (runs : List SortedRun) → length (flat_map (λ node. node.pieces) (map (run_node flushes) runs)) ≡ length (runs_handles runs)
  tables_of_runs [] = refl
  tables_of_runs (run ∷ runs) =
      let here = length-append (map (λ (view : View). view.sst.id) run.views) (flat_map (λ (node : Node). node.pieces) (map (run_node flushes) runs)) in
      let there = ap length (map-append handle_of (map (λ (view : View). view.sst) run.views) (flat_map (λ (r : SortedRun). map (λ (view : View). view.sst) r.views) runs)) ∙ length-append (handles_of run.views) (runs_handles runs) in
      omega (arith, here, there, as_many run.views, tables_of_runs runs)

  tables_in : (l0 : List View) (runs : List SortedRun) → length (flat_map (λ node. node.pieces) (map (flush_node flushes) l0 ++ map (run_node flushes) runs)) ≡ length (handles_of l0 ++ runs_handles runs)
  tables_in [] runs = tables_of_runs runs
  tables_in (view ∷ l0) runs = ap (λ n. suc n) (tables_in l0 runs)

module _ (flushes : RunFlushes) where
  -- A tree names as many tables as there are handles of it.
  tables_of_tree : (s : List ℕ × LsmTreeState) → length (tree_tables (segment_of flushes s)) ≡ length (handles_of_tree s.1)
  tables_of_tree s =
      tables_in (flushes s.0) s.1.l0 s.1.compacted
      ∙ sym (ap length (map-append handle_of (map (λ (view : View). view.sst) s.1.l0) (flat_map (λ (r : SortedRun). map (λ (view : View). view.sst) r.views) s.1.compacted)))

  split_trees : (s : List ℕ × LsmTreeState) (trees : List (List ℕ × LsmTreeState)) (more : List Handle)
      → map handle_of (flat_map (λ t. tree_handles t.1) (s ∷ trees)) ++ more ≡ handles_of_tree s.1 ++ (map handle_of (flat_map (λ t. tree_handles t.1) trees) ++ more)
  split_trees s trees more =
      ap (λ l. l ++ more) (map-append handle_of (tree_handles s.1) (flat_map (λ (t : List ℕ × LsmTreeState). tree_handles t.1) trees))
      ∙ append_assoc (handles_of_tree s.1) (map handle_of (flat_map (λ (t : List ℕ × LsmTreeState). tree_handles t.1) trees)) more

  sized_all : (trees : List (List ℕ × LsmTreeState)) (more : List Handle) → sized_trees (map handle_of (flat_map (λ s. tree_handles s.1) trees) ++ more) (map (segment_of flushes) trees) ≡ map tree_in trees
  sized_all [] more = refl
  sized_all (s ∷ trees) more =
      let others = map handle_of (flat_map (λ (t : List ℕ × LsmTreeState). tree_handles t.1) trees) ++ more in
      let rest : drop (length (tree_tables (segment_of flushes s))) (handles_of_tree s.1 ++ others) ≡ others =
      ap (λ n. drop n (handles_of_tree s.1 ++ others)) (tables_of_tree s) ∙ drop-append_seam (handles_of_tree s.1) others in
      ap (λ l. sized_trees l (map (segment_of flushes) (s ∷ trees))) (split_trees s trees more)
      ∙ ap (λ (t : SizedTree). t ∷ sized_trees (drop (length (tree_tables (segment_of flushes s))) (handles_of_tree s.1 ++ others)) (map (segment_of flushes) trees)) (sized_tree_is (flushes s.0) s others)
      ∙ ap (λ (l : List Handle). tree_in s ∷ sized_trees l (map (segment_of flushes) trees)) rest
      ∙ ap (λ (l : List SizedTree). tree_in s ∷ l) (sized_all trees more)

  -- The model sees the trees with the sizes that the program sees.
  pub sized_is : (state : CompactorStateView) → sized_trees (map handle_of (handles_in state)) (map (segment_of flushes) (trees_in state)) ≡ map tree_in (trees_in state)
  sized_is state =
      ap (λ l. sized_trees l (map (segment_of flushes) (trees_in state))) (map-append handle_of (flat_map (λ (s : List ℕ × LsmTreeState). tree_handles s.1) (trees_in state)) (flat_map job_handles (open_records state.compactions)))
      ∙ sized_all (trees_in state) (map handle_of (flat_map job_handles (open_records state.compactions)))
