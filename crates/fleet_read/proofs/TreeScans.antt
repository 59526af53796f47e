-- The sources of a segment's tree are fit for a scan, which answers as one of the stored rows.
use Rattle.std.proofs.Common.{◌≡◌, refl, sym, ◌∙◌, ap, subst, ℕ, List, [], ◌∷◌, ◌++◌, ◌&&◌, cond, Bool, true, false, Option, Some, None, append-nil}
use Rattle.std.specs.Prelude.{bytes_eq, filter, find, flat_map, map, option_map}
use Rattle.std.specs.List.{AllByRecursion}
use Rattle.std.specs.Option.{option_to_list}
use Rattle.std.proofs.lemmas.List.Concat.{flat_map-append}
use Rattle.std.proofs.lemmas.List.Elements.{filter-append}
use Rattle.row_model.specs.Fold.{Operator}
use Rattle.row_model.specs.Lists.{Pairs}
use Rattle.row_model.specs.Ranges.{Range, is_after_start, is_before_end, rows_in}
use Rattle.row_model.specs.Rows.{IsStrictlyOrdered, Row}
use Rattle.row_model.specs.Scans.{scanned_pairs}
use Rattle.row_laws.specs.Merges.{AreApart}
use Rattle.row_laws.proofs.Elements.{all_append, all_back, all_front}
use Rattle.fleet_model.specs.Handles.{Handle}
use Rattle.fleet_model.specs.Invariants.Invariant.{StoreInvariant}
use Rattle.fleet_model.specs.Invariants.TreesFit.{IsNewer, IsTree}
use Rattle.fleet_model.specs.Nodes.{Node, Segment, Tree, node_rows, segment_at, table_rows, tree_at, tree_or_empty}
use Rattle.fleet_model.specs.Store.{Store}
use Rattle.fleet_model.specs.Trees.{first_key, last_key}
use Rattle.fleet_exec.specs.Ranges.{Sources, source_rows}
use Rattle.fleet_store.specs.Manifests.{IsManifest, bare_node, tree_views}
use Rattle.fleet_store.specs.Tables.{held_rows}
use Rattle.fleet_scan.specs.Sources.{all_rows}
use Rattle.fleet_tree.specs.Trees.{flush_node, run_node, tree_of, trees_with_prefix}
use Rattle.fleet_tree.specs.Views.{View}
use Rattle.fleet_tree.specs.declared.manifest.VersionedManifest.{VersionedManifest}
use Rattle.fleet_tree.specs.declared.run.SortedRun.{SortedRun}
use Rattle.fleet_tree.specs.declared.tree.LsmTreeState.{LsmTreeState}
use Rattle.fleet_read.specs.Sources.{AreScanSources, flush_sources, meets_range, met_tables, run_sources, tree_sources, view_tables}
use Rattle.fleet_read.specs.Stored.{IsHeldView, rows_or_none}
use Rattle.fleet_read.proofs.HeldRows.{held_are}
use Rattle.fleet_read.proofs.Kept.{IsBefore, from_pairs, none_met, pairs_kept, rows_kept, to_pairs}
use Rattle.fleet_read.proofs.SameScans.{same_scan}
use Rattle.fleet_read.proofs.TreeApart.{tree_apart}
use Rattle.fleet_read.proofs.Trees.{found_tree, of_found, same_tree, views_held}

-- ---- the rows of the sources

abbrev run_views : List SortedRun → List View
run_views runs = flat_map (λ (run : SortedRun). run.views) runs

abbrev AreHeldViews : Store → List View → Type 0
AreHeldViews store views = AllByRecursion (IsHeldView store) views

module _ (store : Store) (range : Range) where
  abbrev rows_at : View → List Row
  rows_at view = table_rows store.tables view.sst.id

  abbrev kept : List View → List View
  kept views = filter (meets_range range) views

  met_rows : (view : View) → IsHeldView store view → source_rows (met_tables store range view) ≡ cond (meets_range range view) (rows_at view) []
  met_rows view held = by (meets_range range view)
    where
      of_found : (o : Option (List Row)) → source_rows (option_to_list o) ≡ rows_or_none o
      of_found None = refl
      of_found (Some rows) = append-nil rows

      by : (b : Bool) → source_rows (cond b (option_to_list (held_rows view.sst.id store)) []) ≡ cond b (rows_at view) []
      by true = of_found (held_rows view.sst.id store) ∙ held_are store view.sst.id held.held
      by false = refl

  -- The rows of the tables that meet the range are those of the views that are kept.
  views_flat : (views : List View) → AreHeldViews store views → source_rows (view_tables store range views) ≡ flat_map rows_at (kept views)
  views_flat [] all = refl
  views_flat (view ∷ views) all =
      flat_map-append (λ (rows : List Row). rows) (met_tables store range view) (view_tables store range views)
      ∙ ap (λ (rows : List Row). rows ++ source_rows (view_tables store range views)) (met_rows view all.0)
      ∙ ap (λ (rows : List Row). cond (meets_range range view) (rows_at view) [] ++ rows) (views_flat views all.1)
      ∙ by (meets_range range view)
    where
      by : (b : Bool) → cond b (rows_at view) [] ++ flat_map rows_at (kept views) ≡ flat_map rows_at (cond b (view ∷ kept views) (kept views))
      by true = refl
      by false = refl

  flushes_flat : (views : List View) → AreHeldViews store views → flat_map source_rows (flush_sources store range views) ≡ flat_map rows_at (kept views)
  flushes_flat [] all = refl
  flushes_flat (view ∷ views) all =
      ap (λ (rows : List Row). rows ++ flat_map source_rows (flush_sources store range views)) (views_flat (view ∷ []) (all.0, tt))
      ∙ ap (λ (rows : List Row). flat_map rows_at (kept (view ∷ [])) ++ rows) (flushes_flat views all.1)
      ∙ by (meets_range range view)
    where
      by : (b : Bool) → flat_map rows_at (cond b (view ∷ []) []) ++ flat_map rows_at (kept views) ≡ flat_map rows_at (cond b (view ∷ kept views) (kept views))
      by true = ap (λ (rows : List Row). rows ++ flat_map rows_at (kept views)) (append-nil (rows_at view))
      by false = refl

  both_flat : (xs ys : List View) → flat_map rows_at (kept xs) ++ flat_map rows_at (kept ys) ≡ flat_map rows_at (kept (xs ++ ys))
  both_flat xs ys = sym (flat_map-append rows_at (kept xs) (kept ys)) ∙ ap (flat_map rows_at) (sym (filter-append (meets_range range) xs ys))

  runs_flat : (runs : List SortedRun) → AreHeldViews store (run_views runs) → flat_map source_rows (run_sources store range runs) ≡ flat_map rows_at (kept (run_views runs))
  runs_flat [] all = refl
  runs_flat (run ∷ runs) all =
      ap (λ (rows : List Row). rows ++ flat_map source_rows (run_sources store range runs)) (views_flat run.views (all_front (IsHeldView store) run.views (run_views runs) all))
      ∙ ap (λ (rows : List Row). flat_map rows_at (kept run.views) ++ rows) (runs_flat runs (all_back (IsHeldView store) run.views (run_views runs) all))
      ∙ both_flat run.views (run_views runs)

  tree_flat : (tree : LsmTreeState) → AreHeldViews store (tree_views tree) → all_rows (tree_sources store range tree) ≡ flat_map rows_at (kept (tree_views tree))
  tree_flat tree all =
      flat_map-append source_rows (flush_sources store range tree.l0) (run_sources store range tree.compacted)
      ∙ ap (λ (rows : List Row). rows ++ flat_map source_rows (run_sources store range tree.compacted)) (flushes_flat tree.l0 (all_front (IsHeldView store) tree.l0 (run_views tree.compacted) all))
      ∙ ap (λ (rows : List Row). flat_map rows_at (kept tree.l0) ++ rows) (runs_flat tree.compacted (all_back (IsHeldView store) tree.l0 (run_views tree.compacted) all))
      ∙ both_flat tree.l0 (run_views tree.compacted)

  -- ---- the order of each source

  abbrev AreOrdered : Sources → Type 0
  AreOrdered sources = AllByRecursion (λ tables. IsStrictlyOrdered (source_rows tables)) sources

  source_ordered : (views : List View) → AreHeldViews store views → IsStrictlyOrdered (flat_map rows_at views) → IsStrictlyOrdered (source_rows (view_tables store range views))
  source_ordered views all ordered =
      subst IsStrictlyOrdered (sym (views_flat views all)) (from_pairs (flat_map rows_at (kept views)) (pairs_kept rows_at (meets_range range) IsBefore views (to_pairs (flat_map rows_at views) ordered)))

  flushes_ordered : (views : List View) → AreHeldViews store views → AreOrdered (flush_sources store range views)
  flushes_ordered [] all = tt
  flushes_ordered (view ∷ views) all =
      (source_ordered (view ∷ []) (all.0, tt) (subst IsStrictlyOrdered (sym (append-nil (rows_at view))) all.0.table.ordered), flushes_ordered views all.1)

  -- ---- the rows of a program's tree

  abbrev NodesOrdered : Tree → Type 0
  NodesOrdered tree = AllByRecursion (λ (node : Node). IsStrictlyOrdered (node_rows store.tables node)) tree

  piece_rows : (views : List View) → flat_map (table_rows store.tables) (map (λ (view : View). view.sst.id) views) ≡ flat_map rows_at views
  piece_rows [] = refl
  piece_rows (view ∷ views) = ap (λ (rows : List Row). rows_at view ++ rows) (piece_rows views)

  flush_rows : (views : List View) → flat_map (node_rows store.tables) (map (flush_node (λ run. [])) views) ≡ flat_map rows_at views
  flush_rows [] = refl
  flush_rows (view ∷ views) =
      ap (λ (rows : List Row). rows ++ flat_map (node_rows store.tables) (map (flush_node (λ run. [])) views)) (append-nil (rows_at view)) ∙ ap (λ (rows : List Row). rows_at view ++ rows) (flush_rows views)

  run_rows : (runs : List SortedRun) → flat_map (node_rows store.tables) (map (run_node (λ run. [])) runs) ≡ flat_map rows_at (run_views runs)
  run_rows [] = refl
  run_rows (run ∷ runs) =
      ap (λ (rows : List Row). rows ++ flat_map (node_rows store.tables) (map (run_node (λ run. [])) runs)) (piece_rows run.views)
      ∙ ap (λ (rows : List Row). flat_map rows_at run.views ++ rows) (run_rows runs)
      ∙ sym (flat_map-append rows_at run.views (run_views runs))

  tree_rows : (tree : LsmTreeState) → flat_map (node_rows store.tables) (tree_of (λ run. []) tree) ≡ flat_map rows_at (tree_views tree)
  tree_rows tree =
      flat_map-append (node_rows store.tables) (map (flush_node (λ run. [])) tree.l0) (map (run_node (λ run. [])) tree.compacted)
      ∙ ap (λ (rows : List Row). rows ++ flat_map (node_rows store.tables) (map (run_node (λ run. [])) tree.compacted)) (flush_rows tree.l0)
      ∙ ap (λ (rows : List Row). flat_map rows_at tree.l0 ++ rows) (run_rows tree.compacted)
      ∙ sym (flat_map-append rows_at tree.l0 (run_views tree.compacted))

  runs_ordered : (runs : List SortedRun) → AreHeldViews store (run_views runs) → NodesOrdered (map (run_node (λ run. [])) runs) → AreOrdered (run_sources store range runs)
  runs_ordered [] all ordered = tt
  runs_ordered (run ∷ runs) all ordered = (
    source_ordered run.views (all_front (IsHeldView store) run.views (run_views runs) all) (subst IsStrictlyOrdered (piece_rows run.views) ordered.0),
    runs_ordered runs (all_back (IsHeldView store) run.views (run_views runs) all) ordered.1,
  )

  tree_ordered : (tree : LsmTreeState) → AreHeldViews store (tree_views tree) → NodesOrdered (tree_of (λ run. []) tree) → AreOrdered (tree_sources store range tree)
  tree_ordered tree all ordered =
      all_append (λ tables. IsStrictlyOrdered (source_rows tables)) (flush_sources store range tree.l0) (run_sources store range tree.compacted)
      (flushes_ordered tree.l0 (all_front (IsHeldView store) tree.l0 (run_views tree.compacted) all))
      (runs_ordered tree.compacted (all_back (IsHeldView store) tree.l0 (run_views tree.compacted) all) (all_back (λ (node : Node). IsStrictlyOrdered (node_rows store.tables node)) (map (flush_node (λ run. [])) tree.l0) (map (run_node (λ run. [])) tree.compacted) ordered))

  -- ---- the tables that do not meet the range

  misses : (view : View) → IsHeldView store view → meets_range range view ≡ false → rows_in range (rows_at view) ≡ []
  misses view held apart =
      let described = held.names.described.describes in
      let first : view.sst.first_key ≡ first_key (rows_at view) = ap (λ (h : Handle). h.first_key) described in
      let last : view.sst.last_key ≡ last_key [] (rows_at view) = ap (λ (h : Handle). h.last_key) described in
      none_met range (rows_at view) held.table.ordered held.table.some
      (subst (λ (key : List ℕ). (is_before_end range.to (first_key (rows_at view)) && is_after_start range.from key) ≡ false) last
      (subst (λ (key : List ℕ). (is_before_end range.to key && is_after_start range.from view.sst.last_key) ≡ false) first apart))

  all_miss : (views : List View) → AreHeldViews store views → AllByRecursion (λ (view : View). meets_range range view ≡ false → rows_in range (rows_at view) ≡ []) views
  all_miss [] all = tt
  all_miss (view ∷ views) all = (misses view all.0, all_miss views all.1)

  -- ---- bare nodes

  bare_all : (tree : Tree) → flat_map (node_rows store.tables) (map bare_node tree) ≡ flat_map (node_rows store.tables) tree
  bare_all [] = refl
  bare_all (node ∷ tree) = ap (λ (rows : List Row). node_rows store.tables node ++ rows) (bare_all tree)

  to_bare : (tree : Tree) → NodesOrdered tree → NodesOrdered (map bare_node tree)
  to_bare [] all = tt
  to_bare (node ∷ tree) all = (all.0, to_bare tree all.1)

  from_bare : (tree : Tree) → NodesOrdered (map bare_node tree) → NodesOrdered tree
  from_bare [] all = tt
  from_bare (node ∷ tree) all = (all.0, from_bare tree all.1)

-- ---- the sources of a segment

module _ (merge : Operator) (m : VersionedManifest) (store : Store) (segment : List ℕ) (keeps : StoreInvariant merge store) (is : IsManifest m store) (range : Range) where
  stored : Tree
  stored = tree_at segment store.manifest.trees

  abbrev IsFound : Option LsmTreeState → Type 0
  IsFound found = found ≡ option_map (λ (s : List ℕ × LsmTreeState). s.1) (find (λ (s : List ℕ × LsmTreeState). bytes_eq segment s.0) (trees_with_prefix m.manifest.core))

  stored_ordered : NodesOrdered store range (tree_at segment store.manifest.trees)
  stored_ordered = by (segment_at segment store.manifest.trees) refl
    where
      by : (o : Option Segment) → segment_at segment store.manifest.trees ≡ o → NodesOrdered store range (tree_or_empty o)
      by None at = tt
      by (Some s) at = (of_found (IsTree store.tables) (λ (s : Segment). bytes_eq segment s.prefix) store.manifest.trees s keeps.trees.each at).ordered

  stored_newest : Pairs (IsNewer store.tables) (tree_at segment store.manifest.trees)
  stored_newest = by (segment_at segment store.manifest.trees) refl
    where
      by : (o : Option Segment) → segment_at segment store.manifest.trees ≡ o → Pairs (IsNewer store.tables) (tree_or_empty o)
      by None at = tt
      by (Some s) at = (of_found (IsTree store.tables) (λ (s : Segment). bytes_eq segment s.prefix) store.manifest.trees s keeps.trees.each at).newest_first

  stored_apart : AreApart (flat_map (node_rows store.tables) (tree_at segment store.manifest.trees))
  stored_apart = tree_apart store.tables (tree_at segment store.manifest.trees) stored_newest stored_ordered

  stored_rows : (found : Option LsmTreeState) → IsFound found → flat_map (node_rows store.tables) (tree_at segment store.manifest.trees) ≡ flat_map (node_rows store.tables) (found_tree found)
  stored_rows found at =
      sym (bare_all store range (tree_at segment store.manifest.trees)) ∙ ap (flat_map (node_rows store.tables)) (same_tree m store segment found is at) ∙ bare_all store range (found_tree found)

  -- A segment without a tree has no rows.
  pub no_sources : IsFound None → AreScanSources store segment range []
  no_sources at = record {
    are = record { ordered = tt; apart = tt };
    scans = λ operator seq now. ap (scanned_pairs operator range seq now) (sym (stored_rows None at));
  }

  module _ (tree : LsmTreeState) (at : IsFound (Some tree)) where
    held : AreHeldViews store (tree_views tree)
    held = views_held merge m store segment tree keeps is at

    abbrev sources : Sources
    sources = tree_sources store range tree

    all_stored : flat_map (node_rows store.tables) (tree_at segment store.manifest.trees) ≡ flat_map (rows_at store range) (tree_views tree)
    all_stored = stored_rows (Some tree) at ∙ tree_rows store range tree

    views_apart : AreApart (flat_map (rows_at store range) (tree_views tree))
    views_apart = subst AreApart all_stored stored_apart

    sources_apart : AreApart (all_rows (tree_sources store range tree))
    sources_apart = subst AreApart (sym (tree_flat store range tree held)) (pairs_kept (rows_at store range) (meets_range range) _ (tree_views tree) views_apart)

    same_in : rows_in range (all_rows (tree_sources store range tree)) ≡ rows_in range (flat_map (node_rows store.tables) (tree_at segment store.manifest.trees))
    same_in =
        ap (rows_in range) (tree_flat store range tree held)
        ∙ rows_kept (rows_at store range) (meets_range range) range (tree_views tree) (all_miss store range (tree_views tree) held)
        ∙ ap (rows_in range) (sym all_stored)

    -- The sources of the segment's tree.
    pub scan_sources : AreScanSources store segment range (tree_sources store range tree)
    scan_sources = record {
      are = record {
        ordered = tree_ordered store range tree held (from_bare store range (tree_of (λ run. []) tree) (subst (NodesOrdered store range) (same_tree m store segment (Some tree) is at) (to_bare store range (tree_at segment store.manifest.trees) stored_ordered)));
        apart = sources_apart;
      };
      scans = λ operator seq now. same_scan operator range seq now (all_rows (tree_sources store range tree)) (flat_map (node_rows store.tables) (tree_at segment store.manifest.trees)) same_in;
    }
