-- The trees that a program shows, as the model sees them.
use Rattle.std.proofs.Common.{◌≡◌, refl, sym, ◌∙◌, ap, ℕ, List, [], ◌∷◌, ◌++◌, map, Bool, true, false, not, cond}
use Rattle.std.specs.Prelude.{filter, find, option_map, option_and_then, bytes_eq, is_some, ◌&&◌, ◌||◌, Option, Some, None}
use Rattle.std.specs.List.{filter_map}
use Rattle.std.proofs.lemmas.Slice.Eq.{bytes_eq-Decides}
use Rattle.fleet_model.specs.Nodes.{NodeName, L0, Run, is_l0, names, segment_at}
use Rattle.fleet_model.specs.Work.Scheduler.{full_spec, full_spec_at, into_lowest, lowest_of, one_or_invalid}
use Rattle.fleet_model.specs.Sources.{run_ids}
use Rattle.fleet_tree.specs.Trees.{RunFlushes, tree_of, segment_of, flush_node, run_node}
use Rattle.fleet_tree.specs.Views.{View}
use Rattle.fleet_tree.specs.declared.run.SortedRun.{SortedRun}
use Rattle.fleet_tree.specs.declared.tree.LsmTreeState.{LsmTreeState}
use Rattle.fleet_model.specs.Work.Gates.{is_nonempty}
use Rattle.fleet_model.specs.Jobs.{is_drain_to}
use Rattle.fleet_model.specs.Nodes.{Segment, tree_or_empty}
use Rattle.fleet_model.specs.Sources.{older_nodes}
use Rattle.sched_model.specs.SizeTiered.{agree, is_stretch, lowest_run, tiered_validate}
use Rattle.fleet_jobs.specs.Sources.{name_of}
use Rattle.fleet_jobs.specs.Specs.{destination_of, segment_of as prefix_of, sources_of, spec_of}
use Rattle.fleet_jobs.specs.declared.spec.CompactionSpec.{CompactionSpec}
use Rattle.fleet_jobs.proofs.Standing.{names_are}
use Rattle.fleet_sched.specs.Stretches.{accepts, tree_found}
use Rattle.fleet_book.specs.declared.view.CompactorStateView.{CompactorStateView}
use Rattle.fleet_sched.specs.Full.{full_spec_in, into_run, segment_answer}
use Rattle.fleet_sched.specs.Views.{trees_in, view_of}

-- The merge of all runs of the tree that was found for a segment.
pub at_segment : (prefix : List ℕ) (trees : List (List ℕ × LsmTreeState)) (tree : LsmTreeState)
    → Some tree ≡ option_map (λ s. s.1) (find (λ s. bytes_eq prefix s.0) trees)
    → option_and_then full_spec_in (find (λ s. bytes_eq prefix s.0) trees) ≡ full_spec_in (prefix, tree)
at_segment prefix [] tree e = absurd (cc e)
at_segment prefix (s ∷ trees) tree e = by (bytes_eq prefix s.0) refl e (at_segment prefix trees tree)
  where
    by : (b : Bool) → bytes_eq prefix s.0 ≡ b → Some tree ≡ option_map (λ s. s.1) (cond b (Some s) (find (λ s. bytes_eq prefix s.0) trees))
        → (Some tree ≡ option_map (λ s. s.1) (find (λ s. bytes_eq prefix s.0) trees) → option_and_then full_spec_in (find (λ s. bytes_eq prefix s.0) trees) ≡ full_spec_in (prefix, tree))
        → option_and_then full_spec_in (cond b (Some s) (find (λ s. bytes_eq prefix s.0) trees)) ≡ full_spec_in (prefix, tree)
    by true is same later =
        let key : prefix ≡ s.0 = (bytes_eq-Decides prefix s.0).0 is in
        let same_tree : tree ≡ s.1 = cc same in
        sym (ap (λ p. full_spec_in (p, tree)) key ∙ ap (λ t. full_spec_in (s.0, t)) same_tree)
    by false is same later = later same

-- The names of a program's runs.
abbrev pub names_of_runs : List SortedRun → List NodeName
names_of_runs runs = map (λ run. Run run.id) runs

-- The names of runs have the ids of the runs.
pub run_ids-named : (runs : List SortedRun) → run_ids (names_of_runs runs) ≡ map (λ run. run.id) runs
run_ids-named [] = refl
run_ids-named (run ∷ runs) = ap (λ (ids : List ℕ). run.id ∷ ids) (run_ids-named runs)

run_ids-nodes : (l0 : List View) (runs : List SortedRun) → run_ids (map (λ view. L0 view.id) l0 ++ names_of_runs runs) ≡ map (λ run. run.id) runs
run_ids-nodes [] runs = run_ids-named runs
run_ids-nodes (view ∷ l0) runs = run_ids-nodes l0 runs

-- The merge into the lowest run among the names of a tree's runs is the merge into the lowest one.
pub into_named : (segment : List ℕ) (tree : LsmTreeState) (sources : List NodeName) (lowest : Option ℕ) → sources ≡ names_of_runs tree.compacted → lowest ≡ lowest_run sources
    → into_run segment tree.compacted lowest ≡ full_spec_in (segment, tree)
into_named segment tree sources lowest same is = ap (into_run segment tree.compacted) (is ∙ ap lowest_run same ∙ ap lowest_of (run_ids-named tree.compacted))

module _ (flushes : ℕ → List ℕ) where
  -- The runs of a tree have their ids.
  pub run_ids_of : (tree : LsmTreeState) → run_ids (names (tree_of flushes tree)) ≡ map (λ run. run.id) tree.compacted
  run_ids_of tree = ap run_ids (names_are flushes tree) ∙ run_ids-nodes tree.l0 tree.compacted

  runs_alone : (runs : List SortedRun) → filter (λ name. not (is_l0 name)) (names (map (run_node flushes) runs)) ≡ names_of_runs runs
  runs_alone [] = refl
  runs_alone (run ∷ runs) = ap (λ (rest : List NodeName). Run run.id ∷ rest) (runs_alone runs)

  runs_in_tree : (l0 : List View) (runs : List SortedRun) → filter (λ name. not (is_l0 name)) (names (map (flush_node flushes) l0 ++ map (run_node flushes) runs)) ≡ names_of_runs runs
  runs_in_tree [] runs = runs_alone runs
  runs_in_tree (view ∷ l0) runs = runs_in_tree l0 runs

module _ (flushes : RunFlushes) where
  full_into : (s : List ℕ × LsmTreeState) (lowest : Option ℕ) → into_lowest (segment_of flushes s) lowest ≡ into_run s.0 s.1.compacted lowest
  full_into s None = refl
  full_into s (Some id) = ap (λ sources. Some (record { segment = s.0; sources = sources; destination = Some id })) (runs_in_tree (flushes s.0) s.1.l0 s.1.compacted)

  -- The merge of all runs of a tree is the model's.
  pub full_spec_is : (s : List ℕ × LsmTreeState) → full_spec (segment_of flushes s) ≡ full_spec_in s
  full_spec_is s =
      ap (λ ids. into_lowest (segment_of flushes s) (lowest_of ids)) (run_ids_of (flushes s.0) s.1)
      ∙ full_into s (lowest_of (map (λ run. run.id) s.1.compacted))

  -- The merges of all trees are the model's.
  pub full_specs_are : (trees : List (List ℕ × LsmTreeState)) → filter_map full_spec (map (segment_of flushes) trees) ≡ filter_map full_spec_in trees
  full_specs_are [] = refl
  full_specs_are (s ∷ trees) = cc (full_spec_is s, full_specs_are trees)

  -- A segment is found in the model where it is found in the program.
  pub found_in : (prefix : List ℕ) (trees : List (List ℕ × LsmTreeState))
      → segment_at prefix (map (segment_of flushes) trees) ≡ option_map (segment_of flushes) (find (λ s. bytes_eq prefix s.0) trees)
  found_in prefix [] = refl
  found_in prefix (s ∷ trees) = by (bytes_eq prefix s.0) (found_in prefix trees)
    where
      by : (b : Bool) → segment_at prefix (map (segment_of flushes) trees) ≡ option_map (segment_of flushes) (find (λ s. bytes_eq prefix s.0) trees)
          → cond b (Some (segment_of flushes s)) (segment_at prefix (map (segment_of flushes) trees)) ≡ option_map (segment_of flushes) (cond b (Some s) (find (λ s. bytes_eq prefix s.0) trees))
      by true e = refl
      by false e = e

  full_at : (found : Option (List ℕ × LsmTreeState)) → full_spec_at (option_map (segment_of flushes) found) ≡ option_and_then full_spec_in found
  full_at None = refl
  full_at (Some s) = full_spec_is s

  -- The answer to a request for one segment is the model's.
  pub segment_answer_is : (prefix : List ℕ) (state : CompactorStateView)
      → one_or_invalid (full_spec_at (segment_at prefix (map (segment_of flushes) (trees_in state)))) ≡ segment_answer prefix state
  segment_answer_is prefix state = ap (λ found. one_or_invalid (full_spec_at found)) (found_in prefix (trees_in state)) ∙ ap one_or_invalid (full_at (find (λ s. bytes_eq prefix s.0) (trees_in state)))

  accepted_at : (sources : List NodeName) (destination : ℕ) (found : Option (List ℕ × LsmTreeState))
      → (is_some (option_map (segment_of flushes) found) && is_stretch (tree_or_empty (option_map (segment_of flushes) found)) sources && agree (lowest_run sources) (Some destination))
      ≡ accepts (Some destination) sources (option_map (λ s. s.1) found)
  accepted_at sources destination None = refl
  accepted_at sources destination (Some s) = ap (λ nodes. is_nonempty sources && is_some (older_nodes sources nodes) && agree (lowest_run sources) (Some destination)) (names_are (flushes s.0) s.1)

  -- A job is accepted where the model accepts it.
  pub accepts_is : (state : CompactorStateView) (spec : CompactionSpec)
      → tiered_validate (view_of flushes state) (spec_of spec) ≡ accepts (destination_of spec) (map name_of (sources_of spec)) (tree_found (prefix_of spec) state)
  accepts_is state spec =
      by (destination_of spec)
    where
      by : (d : Option ℕ)
          → (is_drain_to d || (is_some (segment_at (prefix_of spec) (map (segment_of flushes) (trees_in state)))
          && is_stretch (tree_or_empty (segment_at (prefix_of spec) (map (segment_of flushes) (trees_in state)))) (map name_of (sources_of spec))
          && agree (lowest_run (map name_of (sources_of spec))) d))
          ≡ accepts d (map name_of (sources_of spec)) (tree_found (prefix_of spec) state)
      by None = refl
      by (Some id) =
          ap (λ (at : Option Segment). is_some at && is_stretch (tree_or_empty at) (map name_of (sources_of spec)) && agree (lowest_run (map name_of (sources_of spec))) (Some id)) (found_in (prefix_of spec) (trees_in state))
          ∙ accepted_at (map name_of (sources_of spec)) id (find (λ s. bytes_eq (prefix_of spec) s.0) (trees_in state))
