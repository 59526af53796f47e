-- When a poll leaves the manifest as it is.
use Rattle.std.specs.Prelude.{◌≡◌, ◌==◌, ◌&&◌, ℕ, Bool, List, [], map}
use Rattle.std.specs.Cmp.Lexicographic.{pointwise}
use Rattle.fleet_model.specs.Store.{Manifest}
use Rattle.fleet_tree.specs.Trees.{trees_of}
use Rattle.fleet_tree.specs.Views.{View}
use Rattle.fleet_tree.specs.declared.run.SortedRun.{SortedRun}
use Rattle.fleet_tree.specs.declared.tree.LsmTreeState.{LsmTreeState}
use Rattle.fleet_tree.specs.declared.manifest.ManifestCore.{ManifestCore}
use Rattle.fleet_store.specs.Manifests.{bare_segment}

-- Both views are of the same table.
abbrev pub same_table : (a b : View) → Bool
same_table a b = a.sst.id == b.sst.id

-- Two flushes have the same name and table.
abbrev pub same_flush : (a b : View) → Bool
same_flush a b = (a.id == b.id) && same_table a b

-- Two runs have the same id and tables.
abbrev pub same_run : (a b : SortedRun) → Bool
same_run a b = (a.id == b.id) && pointwise same_table a.views b.views

-- Two trees have the same nodes in the same order.
abbrev pub same_nodes : (a b : LsmTreeState) → Bool
same_nodes a b = pointwise same_flush a.l0 b.l0 && pointwise same_run a.compacted b.compacted

-- So have the trees of two segments.
abbrev pub same_tree : (a b : List ℕ × LsmTreeState) → Bool
same_tree a b = same_nodes a.1 b.1

-- Two manifests have the same nodes in the same order, tree by tree, and the same horizon.
abbrev pub same_manifest : (a b : ManifestCore) → Bool
same_manifest a b = same_nodes a.tree b.tree && pointwise same_tree a.segments b.segments && (a.horizon == b.horizon)

-- The model's manifest has the program's horizon and trees, whichever flushes went into the nodes of the trees.
pub record HasTreesOf (core : ManifestCore) (manifest : Manifest) : Type 0 where
  pub trees : map bare_segment (trees_of (λ prefix run. []) core) ≡ map bare_segment manifest.trees
  pub horizon : core.horizon ≡ manifest.horizon
