-- What a job takes of a tree is what the model's source nodes are.
use Rattle.std.proofs.Common.{◌≡◌, refl, sym, ◌∙◌, ap, List, [], ◌∷◌, ◌++◌, map, Bool, true, false, cond, not}
use Rattle.std.specs.Prelude.{ℕ, ◌==◌, filter, find, flat_map, option_map, bytes_eq, Option, Some, None}
use Rattle.std.specs.List.{cons_option}
use Rattle.std.specs.Option.{option_to_list}
use Rattle.std.proofs.lemmas.Cmp.{nat_eq_equiv}
use Rattle.std.proofs.lemmas.Slice.Eq.{bytes_eq-Decides}
use Rattle.std.proofs.lemmas.List.Concat.{flat_map-append}
use Rattle.std.proofs.lemmas.List.{map-append}
use Rattle.std.proofs.lemmas.List.Elements.{filter_map-append}
use Rattle.fleet_model.specs.Nodes.{L0, Run, Node, Tree, is_l0, node_named, tree_at, tree_or_empty}
use Rattle.fleet_model.specs.Trees.{source_nodes, source_pieces}
use Rattle.fleet_tree.specs.Trees.{RunFlushes, flush_node, run_node, tree_of, trees_of, trees_with_prefix}
use Rattle.fleet_tree.specs.Trees as table
use Rattle.fleet_tree.specs.Views.{View}
use Rattle.fleet_tree.specs.declared.run.SortedRun.{SortedRun}
use Rattle.fleet_tree.specs.declared.tree.LsmTreeState.{LsmTreeState}
use Rattle.fleet_jobs.specs.Laws.{TakenRunsAreTheModels, TakenTablesAreTheModels, TakenViewsAreTheModels, l0_names, run_names, view_tables}
use Rattle.fleet_jobs.specs.Sources.{name_of}
use Rattle.fleet_jobs.specs.Specs.{segment_of, sources_of}
use Rattle.fleet_jobs.specs.Taken.{l0_in, named_runs, named_views, runs_in, taken_runs, taken_views, tree_in}
use Rattle.fleet_jobs.specs.declared.source_id.SourceId.{SourceId}
use Rattle.fleet_jobs.specs.declared.source_id.SourceId.TheVariants.{SortedRun as OfRun, SstView}

module _ (flushes : ℕ → List ℕ) where
  -- The nodes of these flushes and runs.
  abbrev nodes : List View → List SortedRun → Tree
  nodes views runs = map (flush_node flushes) views ++ map (run_node flushes) runs

  no_flush : (n : ℕ) (runs : List SortedRun) → node_named (L0 n) (map (run_node flushes) runs) ≡ None
  no_flush n [] = refl
  no_flush n (r ∷ runs) = no_flush n runs

  flush_named : (n : ℕ) (runs : List SortedRun) (views : List View) → node_named (L0 n) (nodes views runs) ≡ option_map (flush_node flushes) (find (λ view. view.id == n) views)
  flush_named n runs [] = no_flush n runs
  flush_named n runs (v ∷ views) =
      ap (λ b. cond b (Some (flush_node flushes v)) (node_named (L0 n) (nodes views runs))) (nat_eq_equiv.symm n v.id) ∙ by (v.id == n) (flush_named n runs views)
    where
      by : (b : Bool) → node_named (L0 n) (nodes views runs) ≡ option_map (flush_node flushes) (find (λ view. view.id == n) views)
          → cond b (Some (flush_node flushes v)) (node_named (L0 n) (nodes views runs)) ≡ option_map (flush_node flushes) (cond b (Some v) (find (λ view. view.id == n) views))
      by true rest = refl
      by false rest = rest

  only_run_named : (n : ℕ) (runs : List SortedRun) → node_named (Run n) (map (run_node flushes) runs) ≡ option_map (run_node flushes) (find (λ run. run.id == n) runs)
  only_run_named n [] = refl
  only_run_named n (r ∷ runs) =
      ap (λ b. cond b (Some (run_node flushes r)) (node_named (Run n) (map (run_node flushes) runs))) (nat_eq_equiv.symm n r.id) ∙ by (r.id == n) (only_run_named n runs)
    where
      by : (b : Bool) → node_named (Run n) (map (run_node flushes) runs) ≡ option_map (run_node flushes) (find (λ run. run.id == n) runs)
          → cond b (Some (run_node flushes r)) (node_named (Run n) (map (run_node flushes) runs)) ≡ option_map (run_node flushes) (cond b (Some r) (find (λ run. run.id == n) runs))
      by true rest = refl
      by false rest = rest

  run_named : (n : ℕ) (runs : List SortedRun) (views : List View) → node_named (Run n) (nodes views runs) ≡ option_map (run_node flushes) (find (λ run. run.id == n) runs)
  run_named n runs [] = only_run_named n runs
  run_named n runs (v ∷ views) = run_named n runs views

  added : {A : Type 0} (f : A → Node) (o : Option A) (xs : List A) → map f (option_to_list o ++ xs) ≡ cons_option (option_map f o) (map f xs)
  added f None xs = refl
  added f (Some x) xs = refl

  views_are : (views : List View) (runs : List SortedRun) (sources : List SourceId)
      → map (flush_node flushes) (named_views sources views) ≡ source_nodes (filter is_l0 (map name_of sources)) (nodes views runs)
  views_are views runs [] = refl
  views_are views runs (OfRun id ∷ sources) = views_are views runs sources
  views_are views runs (SstView id ∷ sources) =
      added (flush_node flushes) (find (λ view. view.id == id) views) (named_views sources views)
      ∙ ap (λ o. cons_option o (map (flush_node flushes) (named_views sources views))) (sym (flush_named id runs views))
      ∙ ap (cons_option (node_named (L0 id) (nodes views runs))) (views_are views runs sources)

  runs_are : (views : List View) (runs : List SortedRun) (sources : List SourceId)
      → map (run_node flushes) (named_runs sources runs) ≡ source_nodes (filter (λ name. not (is_l0 name)) (map name_of sources)) (nodes views runs)
  runs_are views runs [] = refl
  runs_are views runs (SstView id ∷ sources) = runs_are views runs sources
  runs_are views runs (OfRun id ∷ sources) =
      added (run_node flushes) (find (λ run. run.id == id) runs) (named_runs sources runs)
      ∙ ap (λ o. cons_option o (map (run_node flushes) (named_runs sources runs))) (sym (run_named id runs views))
      ∙ ap (cons_option (node_named (Run id) (nodes views runs))) (runs_are views runs sources)

  view_pieces : (views : List View) → view_tables views ≡ flat_map (λ node. node.pieces) (map (flush_node flushes) views)
  view_pieces [] = refl
  view_pieces (v ∷ views) = ap (λ ids. v.sst.id ∷ ids) (view_pieces views)

  run_pieces : (runs : List SortedRun) → view_tables (flat_map (λ run. run.views) runs) ≡ flat_map (λ node. node.pieces) (map (run_node flushes) runs)
  run_pieces [] = refl
  run_pieces (r ∷ runs) = map-append (λ view. view.sst.id) r.views (flat_map (λ run. run.views) runs) ∙ ap (λ ids. view_tables r.views ++ ids) (run_pieces runs)

module _ (flushes : RunFlushes) (p : List ℕ) where
  -- The nodes of the tree that a segment has.
  abbrev nodes_in : Option (List ℕ × LsmTreeState) → Tree
  nodes_in s = nodes (flushes p) (l0_in (option_map (λ s. s.1) s)) (runs_in (option_map (λ s. s.1) s))

  tree_is : (ss : List (List ℕ × LsmTreeState)) → tree_at p (map (table.segment_of flushes) ss) ≡ nodes_in (find (λ s. bytes_eq p s.0) ss)
  tree_is [] = refl
  tree_is (s ∷ ss) = by (bytes_eq p s.0) refl (tree_is ss)
    where
      by : (b : Bool) → bytes_eq p s.0 ≡ b → tree_at p (map (table.segment_of flushes) ss) ≡ nodes_in (find (λ s. bytes_eq p s.0) ss)
          → tree_or_empty (cond b (Some (table.segment_of flushes s)) (find (λ segment. bytes_eq p segment.prefix) (map (table.segment_of flushes) ss))) ≡ nodes_in (cond b (Some s) (find (λ s. bytes_eq p s.0) ss))
      by true e rest = ap (λ q. tree_of (flushes q) s.1) (sym ((bytes_eq-Decides p s.0).0 e))
      by false e rest = rest

pub taken_views_are_the_models : TakenViewsAreTheModels
taken_views_are_the_models flushes spec core =
    let tree = tree_in (segment_of spec) core in
    views_are (flushes (segment_of spec)) (l0_in tree) (runs_in tree) (sources_of spec) ∙ ap (source_nodes (l0_names spec)) (sym (tree_is flushes (segment_of spec) (trees_with_prefix core)))

pub taken_runs_are_the_models : TakenRunsAreTheModels
taken_runs_are_the_models flushes spec core =
    let tree = tree_in (segment_of spec) core in
    runs_are (flushes (segment_of spec)) (l0_in tree) (runs_in tree) (sources_of spec) ∙ ap (source_nodes (run_names spec)) (sym (tree_is flushes (segment_of spec) (trees_with_prefix core)))

-- If a job names its flushes before its runs, the tables that it takes are those of the model's source
-- nodes.
pub taken_tables_are_the_models : TakenTablesAreTheModels
taken_tables_are_the_models flushes spec core in_order =
    let tree = tree_at (segment_of spec) (trees_of flushes core) in
    let views = taken_views spec core in
    let runs = taken_runs spec core in
    let pieces : List Node → List ℕ = flat_map (λ node. node.pieces) in
    map-append (λ view. view.sst.id) views (flat_map (λ run. run.views) runs)
    ∙ ap (λ ids. ids ++ view_tables (flat_map (λ run. run.views) runs)) (view_pieces (flushes (segment_of spec)) views ∙ ap pieces (taken_views_are_the_models flushes spec core))
    ∙ ap (λ ids. pieces (source_nodes (l0_names spec) tree) ++ ids) (run_pieces (flushes (segment_of spec)) runs ∙ ap pieces (taken_runs_are_the_models flushes spec core))
    ∙ sym (flat_map-append (λ node. node.pieces) (source_nodes (l0_names spec) tree) (source_nodes (run_names spec) tree))
    ∙ ap pieces (sym (filter_map-append (λ name. node_named name tree) (l0_names spec) (run_names spec)))
    ∙ ap (λ names. source_pieces names tree) (sym in_order)
