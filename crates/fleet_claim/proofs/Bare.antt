-- What a got manifest says of the stored one: the names and the tables of its nodes, and the descriptions of tables.
use Rattle.std.proofs.Common.{◌≡◌, refl, sym, ◌∙◌, ap, ℕ, ◌==◌, List, [], ◌∷◌, ◌++◌, map, Bool, true, false, cond}
use Rattle.std.specs.Prelude.{find, flat_map, option_map, bytes_eq, Option, Some, None, IfSome}
use Rattle.std.specs.List.{AllByRecursion, cons_option}
use Rattle.std.specs.Option.{option_to_list}
use Rattle.fleet_model.specs.Nodes.{Node, NodeName, Tree, Trees, name_eq, names, node_named, tree_at, tree_or_empty}
use Rattle.fleet_model.specs.Store.{Store}
use Rattle.fleet_model.specs.Store as model_store
use Rattle.fleet_model.specs.Trees.{source_nodes, source_pieces}
use Rattle.fleet_tree.specs.Trees.{trees_of}
use Rattle.fleet_tree.specs.Views.{View}
use Rattle.fleet_tree.specs.declared.manifest.VersionedManifest.{VersionedManifest}
use Rattle.fleet_tree.specs.declared.run.SortedRun.{SortedRun}
use Rattle.fleet_tree.specs.declared.tree.LsmTreeState.{LsmTreeState}
use Rattle.fleet_jobs.specs.Laws.{view_tables}
use Rattle.fleet_jobs.specs.Places.{nodes_at}
use Rattle.fleet_jobs.specs.Sources.{name_of}
use Rattle.fleet_jobs.specs.Taken.{tree_in}
use Rattle.fleet_jobs.specs.declared.source_id.SourceId.{SourceId}
use Rattle.fleet_jobs.specs.declared.source_id.SourceId.TheVariants.{SortedRun as OfRun, SstView}
use Rattle.fleet_jobs.proofs.ModelPlaces.{nodes_are_the_models}
use Rattle.fleet_store.specs.Manifests.{IsManifest, bare_node, bare_segment, tree_views}
use Rattle.step_laws.proofs.Elements.{all_back, all_flat, all_front}
use Rattle.fleet_claim.specs.Sources.{run_views, views_at, views_in}
use Rattle.fleet_claim.proofs.ModelSources.{source_tables}

-- ---- bare nodes

bare_names : (tree : Tree) → names (map bare_node tree) ≡ names tree
bare_names [] = refl
bare_names (node ∷ tree) = ap (λ ns. node.name ∷ ns) (bare_names tree)

bare_named : (name : NodeName) (tree : Tree) → node_named name (map bare_node tree) ≡ option_map bare_node (node_named name tree)
bare_named name [] = refl
bare_named name (node ∷ tree) = by (name_eq name node.name) (bare_named name tree)
  where
    by : (b : Bool) → node_named name (map bare_node tree) ≡ option_map bare_node (node_named name tree)
        → cond b (Some (bare_node node)) (node_named name (map bare_node tree)) ≡ option_map bare_node (cond b (Some node) (node_named name tree))
    by true rest = refl
    by false rest = rest

bare_pieces : (sources : List NodeName) (tree : Tree) → source_pieces sources (map bare_node tree) ≡ source_pieces sources tree
bare_pieces [] tree = refl
bare_pieces (name ∷ sources) tree =
    ap (λ o. flat_map (λ (node : Node). node.pieces) (cons_option o (source_nodes sources (map bare_node tree)))) (bare_named name tree) ∙ by (node_named name tree) (bare_pieces sources tree)
  where
    by : (found : Option Node) → source_pieces sources (map bare_node tree) ≡ source_pieces sources tree
        → flat_map (λ (node : Node). node.pieces) (cons_option (option_map bare_node found) (source_nodes sources (map bare_node tree))) ≡ flat_map (λ (node : Node). node.pieces) (cons_option found (source_nodes sources tree))
    by None rest = rest
    by (Some node) rest = ap (λ pieces. node.pieces ++ pieces) rest

bare_tree : (prefix : List ℕ) (trees : Trees) → tree_at prefix (map bare_segment trees) ≡ map bare_node (tree_at prefix trees)
bare_tree prefix [] = refl
bare_tree prefix (s ∷ trees) = by (bytes_eq prefix s.prefix) (bare_tree prefix trees)
  where
    by : (b : Bool) → tree_at prefix (map bare_segment trees) ≡ map bare_node (tree_at prefix trees)
        → tree_or_empty (cond b (Some (bare_segment s)) (find (λ segment. bytes_eq prefix segment.prefix) (map bare_segment trees))) ≡ map bare_node (tree_or_empty (cond b (Some s) (find (λ segment. bytes_eq prefix segment.prefix) trees)))
    by true rest = refl
    by false rest = rest

-- ---- the nodes and the tables of a segment

module _ (manifest : VersionedManifest) (store : Store) (is : IsManifest manifest store) where
  trees_are : map bare_segment (trees_of (λ prefix run. []) manifest.manifest.core) ≡ map bare_segment store.manifest.trees
  trees_are = ap (λ (m : model_store.Manifest). m.trees) is.same

  pub names_are : (segment : List ℕ) → names (tree_at segment store.manifest.trees) ≡ nodes_at segment manifest.manifest.core
  names_are segment =
      sym (bare_names (tree_at segment store.manifest.trees))
      ∙ ap names (sym (bare_tree segment store.manifest.trees))
      ∙ ap (λ trees. names (tree_at segment trees)) (sym trees_are)
      ∙ ap names (bare_tree segment (trees_of (λ prefix run. []) manifest.manifest.core))
      ∙ bare_names (tree_at segment (trees_of (λ prefix run. []) manifest.manifest.core))
      ∙ nodes_are_the_models (λ prefix run. []) segment manifest.manifest.core

  pub pieces_are : (segment : List ℕ) (sources : List SourceId) → source_pieces (map name_of sources) (tree_at segment store.manifest.trees) ≡ view_tables (views_in (tree_in segment manifest.manifest.core) sources)
  pieces_are segment sources =
      let ns = map name_of sources in
      sym (bare_pieces ns (tree_at segment store.manifest.trees))
      ∙ ap (source_pieces ns) (sym (bare_tree segment store.manifest.trees))
      ∙ ap (λ trees. source_pieces ns (tree_at segment trees)) (sym trees_are)
      ∙ ap (source_pieces ns) (bare_tree segment (trees_of (λ prefix run. []) manifest.manifest.core))
      ∙ bare_pieces ns (tree_at segment (trees_of (λ prefix run. []) manifest.manifest.core))
      ∙ sym (source_tables (λ prefix run. []) segment manifest.manifest.core sources)

-- ---- what holds of all views of a manifest

module _ (P : View → Type 0) where
  in_tree : (segment : List ℕ) (trees : List (List ℕ × LsmTreeState)) → AllByRecursion P (flat_map (λ s. tree_views s.1) trees)
      → IfSome (option_map (λ s. s.1) (find (λ s. bytes_eq segment s.0) trees)) (λ tree. AllByRecursion P (tree_views tree))
  in_tree segment [] all = tt
  in_tree segment (s ∷ trees) all = by (bytes_eq segment s.0) (in_tree segment trees (all_back P (tree_views s.1) _ all))
    where
      by : (b : Bool) → IfSome (option_map (λ s. s.1) (find (λ s. bytes_eq segment s.0) trees)) (λ tree. AllByRecursion P (tree_views tree))
          → IfSome (option_map (λ s. s.1) (cond b (Some s) (find (λ s. bytes_eq segment s.0) trees))) (λ tree. AllByRecursion P (tree_views tree))
      by true rest = all_front P (tree_views s.1) _ all
      by false rest = rest

  at_view : (id : ℕ) (views : List View) → AllByRecursion P views → AllByRecursion P (option_to_list (find (λ view. view.id == id) views))
  at_view id [] all = tt
  at_view id (view ∷ views) all = by (view.id == id) (at_view id views all.1)
    where
      by : (b : Bool) → AllByRecursion P (option_to_list (find (λ view. view.id == id) views)) → AllByRecursion P (option_to_list (cond b (Some view) (find (λ view. view.id == id) views)))
      by true rest = (all.0, tt)
      by false rest = rest

  at_run : (id : ℕ) (runs : List SortedRun) → AllByRecursion P (flat_map (λ run. run.views) runs) → AllByRecursion P (run_views (find (λ run. run.id == id) runs))
  at_run id [] all = tt
  at_run id (run ∷ runs) all = by (run.id == id) (at_run id runs (all_back P run.views _ all))
    where
      by : (b : Bool) → AllByRecursion P (run_views (find (λ run. run.id == id) runs)) → AllByRecursion P (run_views (cond b (Some run) (find (λ run. run.id == id) runs)))
      by true rest = all_front P run.views _ all
      by false rest = rest

  at_source : (tree : LsmTreeState) (source : SourceId) → AllByRecursion P (tree_views tree) → AllByRecursion P (views_at tree source)
  at_source tree (SstView id) all = at_view id tree.l0 (all_front P tree.l0 _ all)
  at_source tree (OfRun id) all = at_run id tree.compacted (all_back P tree.l0 _ all)

  at_sources : (tree : LsmTreeState) (sources : List SourceId) → AllByRecursion P (tree_views tree) → AllByRecursion (λ source. AllByRecursion P (views_at tree source)) sources
  at_sources tree [] all = tt
  at_sources tree (source ∷ sources) all = (at_source tree source all, at_sources tree sources all)

  -- It holds of the views of sources.
  pub of_sources : (segment : List ℕ) (trees : List (List ℕ × LsmTreeState)) (sources : List SourceId) → AllByRecursion P (flat_map (λ s. tree_views s.1) trees)
      → AllByRecursion P (views_in (option_map (λ s. s.1) (find (λ s. bytes_eq segment s.0) trees)) sources)
  of_sources segment trees sources all = by (option_map (λ s. s.1) (find (λ s. bytes_eq segment s.0) trees)) (in_tree segment trees all)
    where
      by : (tree : Option LsmTreeState) → IfSome tree (λ tree. AllByRecursion P (tree_views tree)) → AllByRecursion P (views_in tree sources)
      by None h = tt
      by (Some tree) h = all_flat P (views_at tree) sources (at_sources tree sources h)
