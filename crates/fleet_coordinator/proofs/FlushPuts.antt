-- The put of the manifest by which a flush takes effect.
use Rattle.std.proofs.Common.{◌≡◌, refl, sym, ◌∙◌, ap, subst, ℕ, Bool, true, false, cond, List, [], ◌∷◌, ◌++◌}
use Rattle.std.specs.Prelude.{bytes_eq, flat_map, map}
use Rattle.std.specs.List.{AllByRecursion, list_all}
use Rattle.std.specs.List.Sorted.{IsStrictlySortedBy}
use Rattle.std.specs.Ordering.{is_lt}
use Rattle.row_model.specs.Rows.{Row, key_cmp}
use Rattle.fleet_model.specs.Handles.{describe}
use Rattle.fleet_model.specs.History.{Flush}
use Rattle.fleet_model.specs.Nodes.{L0, Segment, Trees, Tree, is_among, last_seq_of, segment_at, table_rows}
use Rattle.fleet_model.specs.Store.{Manifest, Store}
use Rattle.fleet_model.specs.Tracker.{least_seq_of, tracked_after}
use Rattle.fleet_model.specs.Trees.{flushed_on, flushed_trees, empty_segment, greatest_seq}
use Rattle.step_model.specs.Steps.FlushSteps.{is_above, with_flush}
use Rattle.step_laws.proofs.FlushTrees.{Rising, rising_from, rising_to}
use Rattle.fleet_tree.specs.Laws.{FlushArguments, IsFlushOf, met_tree}
use Rattle.fleet_tree.proofs.ModelFlushes.{flushes_are_the_models}
use Rattle.fleet_tree.specs.Manifests.{manifest_of, tracker_of}
use Rattle.fleet_tree.specs.Trees as own_trees
use Rattle.fleet_tree.specs.Trees.{empty_tree, flushed_segments, segment_of, trees_of, trees_with_prefix}
use Rattle.fleet_tree.specs.Views.{View}
use Rattle.fleet_tree.specs.declared.manifest.Manifest as own
use Rattle.fleet_tree.specs.declared.manifest.VersionedManifest.{VersionedManifest}
use Rattle.fleet_tree.specs.declared.tree.LsmTreeState.{LsmTreeState}
use Rattle.fleet_store.specs.Handles.{NamesTable}
use Rattle.fleet_store.specs.Manifests.{HasTrees, bare, bare_node, bare_of, bare_segment, meant_by, tree_views, views_in}
use Rattle.fleet_coordinator.specs.Flushes.{HasSeqs, IsFlushPut, asked_of}
use Rattle.fleet_coordinator.specs.declared.flushing.MadeFlush as made
use Rattle.fleet_coordinator.proofs.FlushRules.{bare_flushes, greatest_after, last_bare, last_found, met_is}

-- ---- trees with bare nodes

bare_again : (tree : Tree) → map bare_node (map bare_node tree) ≡ map bare_node tree
bare_again [] = refl
bare_again (node ∷ tree) = ap (λ rest. bare_node node ∷ rest) (bare_again tree)

segment_again : (s : Segment) → bare_segment (bare_segment s) ≡ bare_segment s
segment_again s = ap (λ tree. record s { tree = tree }) (bare_again s.tree)

all_again : (trees : Trees) → map bare_segment (map bare_segment trees) ≡ map bare_segment trees
all_again [] = refl
all_again (s ∷ trees) = rw (segment_again s, all_again trees) refl

module _ (prefix : List ℕ) (name : ℕ) (rows : List Row) where
  on_bare : (s : Segment) → bare_segment (flushed_on name rows s) ≡ bare_segment (flushed_on name rows (bare_segment s))
  on_bare s = ap (λ tree. record (bare_segment (flushed_on name rows s)) { tree = record { name = L0 name; flushes = []; pieces = name ∷ [] } ∷ tree }) (sym (bare_again s.tree))

  -- A flush makes alike trees of trees that are alike but for the flushes of their nodes.
  flushed_bare : (trees : Trees) → map bare_segment (flushed_trees prefix name rows trees) ≡ map bare_segment (flushed_trees prefix name rows (map bare_segment trees))
  flushed_bare [] = refl
  flushed_bare (s ∷ trees) = by (bytes_eq prefix s.prefix) (is_lt (key_cmp prefix s.prefix)) (flushed_bare trees)
    where
      by : (same low : Bool) → map bare_segment (flushed_trees prefix name rows trees) ≡ map bare_segment (flushed_trees prefix name rows (map bare_segment trees))
          → map bare_segment (cond same (flushed_on name rows s ∷ trees) (cond low (flushed_on name rows (empty_segment prefix) ∷ s ∷ trees) (s ∷ flushed_trees prefix name rows trees)))
          ≡ map bare_segment (cond same (flushed_on name rows (bare_segment s) ∷ map bare_segment trees) (cond low (flushed_on name rows (empty_segment prefix) ∷ bare_segment s ∷ map bare_segment trees) (bare_segment s ∷ flushed_trees prefix name rows (map bare_segment trees))))
      by true low rest = rw (sym (on_bare s), all_again trees) refl
      by false true rest = rw (segment_again s, all_again trees) refl
      by false false rest = rw (segment_again s, sym rest) refl

  pub alike_flushed : (one other : Trees) → map bare_segment one ≡ map bare_segment other → map bare_segment (flushed_trees prefix name rows one) ≡ map bare_segment (flushed_trees prefix name rows other)
  alike_flushed one other same = flushed_bare one ∙ ap (λ trees. map bare_segment (flushed_trees prefix name rows trees)) same ∙ sym (flushed_bare other)

-- ---- prefixes

prefixes_of : (trees : Trees) → map (λ s. s.prefix) (map bare_segment trees) ≡ map (λ s. s.prefix) trees
prefixes_of [] = refl
prefixes_of (s ∷ trees) = ap (λ rest. s.prefix ∷ rest) (prefixes_of trees)

rise_as : (one other : Trees) → map (λ s. s.prefix) one ≡ map (λ s. s.prefix) other → Rising other → Rising one
rise_as one other same rise = rising_from one (subst (IsStrictlySortedBy key_cmp) (sym same) (rising_to other rise))

-- ---- views

module _ (P : View → Type 0) (prefix : List ℕ) (view : View) (seq : ℕ) (named : P view) where
  abbrev views_of : List (List ℕ × LsmTreeState) → List View
  views_of trees = flat_map (λ s. tree_views s.1) trees

  back : (front rest : List View) → AllByRecursion P (front ++ rest) → AllByRecursion P rest
  back [] rest all = all
  back (x ∷ front) rest all = back front rest all.1

  other_back : (front rest new : List View) → AllByRecursion P (front ++ rest) → (AllByRecursion P rest → AllByRecursion P new) → AllByRecursion P (front ++ new)
  other_back [] rest new all on = on all
  other_back (x ∷ front) rest new all on = (all.0, other_back front rest new all.1 on)

  pub flushed_views : (trees : List (List ℕ × LsmTreeState)) → AllByRecursion P (views_of trees) → AllByRecursion P (views_of (flushed_segments prefix view seq trees))
  flushed_views [] all = (named, tt)
  flushed_views (s ∷ trees) all = by (bytes_eq prefix s.0) (is_lt (key_cmp prefix s.0)) (flushed_views trees)
    where
      by : (same low : Bool) → (AllByRecursion P (views_of trees) → AllByRecursion P (views_of (flushed_segments prefix view seq trees))) → AllByRecursion P (views_of (cond same ((prefix, own_trees.flushed_on view seq s.1) ∷ trees) (cond low ((prefix, own_trees.flushed_on view seq empty_tree) ∷ s ∷ trees) (s ∷ flushed_segments prefix view seq trees))))
      by true low on = (named, all)
      by false true on = (named, all)
      by false false on = other_back (tree_views s.1) (views_of trees) (views_of (flushed_segments prefix view seq trees)) all on

-- ---- the manifest that is put

module _ (moment retention : ℕ) (got : VersionedManifest) (f : made.MadeFlush) (version : ℕ) (value : own.Manifest) (is : IsFlushPut moment retention got f version value) (seqs : HasSeqs f) (stored : Manifest)
    (same : bare_of got.id got.manifest ≡ bare stored) (rise : Rising stored.trees) (above : list_all (λ r. is_above (last_seq_of (segment_at f.segment stored.trees)) r.seq) f.table ≡ true) where
  abbrev core_trees : List (List ℕ × LsmTreeState)
  core_trees = trees_with_prefix got.manifest.core

  trees_same : map bare_segment (trees_of bare_flushes got.manifest.core) ≡ map bare_segment stored.trees
  trees_same = ap (λ (m : Manifest). m.trees) same

  -- The prefixes of the manifest that was got rise.
  got_rise : Rising (trees_of bare_flushes got.manifest.core)
  got_rise = rise_as (trees_of bare_flushes got.manifest.core) stored.trees (sym (prefixes_of (trees_of bare_flushes got.manifest.core)) ∙ ap (map (λ s. s.prefix)) trees_same ∙ prefixes_of stored.trees) rise

  last_is : (met_tree f.segment core_trees).last_seq ≡ last_seq_of (segment_at f.segment stored.trees)
  last_is =
      met_is f.segment core_trees got_rise ∙ sym (last_found f.segment core_trees) ∙ sym (last_bare f.segment (trees_of bare_flushes got.manifest.core))
      ∙ ap (λ trees. last_seq_of (segment_at f.segment trees)) trees_same ∙ last_bare f.segment stored.trees

  -- What the code gives to the flush of the manifest that it got.
  abbrev arguments : FlushArguments
  arguments = record {
    segment = f.segment;
    view = is.view;
    last_seq = f.greatest_seq;
    least_seq = f.least_seq;
    floor = f.floor;
    tick = f.tick;
    moment = moment;
    retention = retention;
  }

  fits : IsFlushOf f.table arguments got.manifest.core
  fits = record {
    own = is.own ∙ sym is.name;
    last = ap (λ last. greatest_seq last f.table) last_is ∙ greatest_after (last_seq_of (segment_at f.segment stored.trees)) f.table f.greatest_seq above seqs.greatest;
    least = seqs.least;
  }

  -- The model's manifest of what is put.
  model_is : manifest_of bare_flushes version value.compactor_epoch value.core ≡ record (manifest_of bare_flushes version value.compactor_epoch got.manifest.core) {
    trees = flushed_trees f.segment is.view.id f.table (trees_of bare_flushes got.manifest.core);
    floor = f.floor;
    tick = f.tick;
    tracker = tracked_after moment retention (least_seq_of f.table) (tracker_of got.manifest.core.tracker);
  }
  model_is = flushes_are_the_models bare_flushes version value.compactor_epoch f.table arguments got.manifest.core value.core fits is.flushed

  module _ (met : Store) (kept : met.manifest ≡ stored) (there : table_rows met.tables f.name ≡ f.table) where
    -- It means the stored manifest with the flush.
    pub means_flush : meant_by [] (Flush f.name f.segment f.floor f.tick) version value met ≡ with_flush moment retention (asked_of f) stored
    means_flush =
        ap (λ (m : Manifest). record m { trees = flushed_trees f.segment f.name (table_rows met.tables f.name) met.manifest.trees }) model_is
        ∙ ap (λ rows. with_trees (flushed_trees f.segment f.name rows met.manifest.trees)) there
        ∙ ap (λ (m : Manifest). with_trees (flushed_trees f.segment f.name f.table m.trees)) kept
        ∙ ap (λ n. record (with_trees new) { version = n }) (is.at)
        ∙ ap (λ n. record (with_trees new) { version = got.id; epoch = n }) (is.epoch)
        ∙ ap (λ (m : Manifest). record m {
          trees = new;
          floor = f.floor;
          tick = f.tick;
          tracker = tracked_after moment retention (least_seq_of f.table) m.tracker;
        }) same
      where
        new : Trees
        new = flushed_trees f.segment f.name f.table stored.trees

        with_trees : Trees → Manifest
        with_trees trees = record (manifest_of bare_flushes version value.compactor_epoch got.manifest.core) {
          trees = trees;
          floor = f.floor;
          tick = f.tick;
          tracker = tracked_after moment retention (least_seq_of f.table) (tracker_of got.manifest.core.tracker);
        }

    -- It has the trees that the flush makes of the stored ones, and describes its tables.
    pub shows_flush : is_among met.tables f.name ≡ true → AllByRecursion (NamesTable met.tables) (views_in got.manifest.core) → HasTrees value [] (Flush f.name f.segment f.floor f.tick) met
    shows_flush among views = record {
      same = ap (λ (m : Manifest). map bare_segment m.trees) model_is
          ∙ ap (λ n. map bare_segment (flushed_trees f.segment n f.table (trees_of bare_flushes got.manifest.core))) is.name
          ∙ alike_flushed f.segment f.name f.table (trees_of bare_flushes got.manifest.core) stored.trees trees_same
          ∙ ap (λ rows. map bare_segment (flushed_trees f.segment f.name rows stored.trees)) (sym there)
          ∙ ap (λ (m : Manifest). map bare_segment (flushed_trees f.segment f.name (table_rows met.tables f.name) m.trees)) (sym kept);
      views = subst (λ trees. AllByRecursion (NamesTable met.tables) (flat_map (λ s. tree_views s.1) trees)) (sym is.flushed.trees)
          (flushed_views (NamesTable met.tables) f.segment is.view f.greatest_seq named core_trees views);
    }
      where
        named : NamesTable met.tables is.view
        named = record {
          identity = is.name ∙ sym is.own;
          described = record {
            put = ap (is_among met.tables) is.own ∙ among;
            describes = is.described ∙ ap (λ rows. describe f.name rows) (sym there) ∙ ap (λ n. describe n (table_rows met.tables n)) (sym is.own);
          };
        }
