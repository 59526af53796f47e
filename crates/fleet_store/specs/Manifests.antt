-- Which manifest of the model a manifest of a program stands for. A program does not keep which flushes went
-- into a node.
use Rattle.std.specs.Prelude.{◌≡◌, ℕ, List, [], ◌++◌, map, flat_map, Option, Some, None}
use Rattle.std.specs.List.{AllByRecursion}
use Rattle.std.specs.declared.snapshot.Snapshot.{Snapshot}
use Rattle.fleet_model.specs.Nodes.{Node, Segment, Trees, table_rows}
use Rattle.fleet_model.specs.Jobs.{JobSpec}
use Rattle.fleet_model.specs.History as model
use Rattle.fleet_model.specs.Store as model_store
use Rattle.fleet_model.specs.Trees.{flushed_trees, stepped_all}
use Rattle.fleet_model.specs.Past.Replay.{outputs_in}
use Rattle.fleet_tree.specs.Manifests.{manifest_of}
use Rattle.fleet_tree.specs.Trees.{trees_of, trees_with_prefix}
use Rattle.fleet_tree.specs.Views.{View}
use Rattle.fleet_tree.specs.declared.manifest.Manifest.{Manifest}
use Rattle.fleet_tree.specs.declared.manifest.ManifestCore.{ManifestCore}
use Rattle.fleet_tree.specs.declared.manifest.VersionedManifest.{VersionedManifest}
use Rattle.fleet_tree.specs.declared.tree.LsmTreeState.{LsmTreeState}
use Rattle.fleet_jobs.specs.Parts.JobParts.{JobParts}
use Rattle.fleet_jobs.specs.Specs.{spec_of}
use Rattle.fleet_book.specs.Records.{record_with}
use Rattle.fleet_book.specs.declared.compactions.Compactions.{Compactions}
use Rattle.fleet_store.specs.Handles.{NamesTable}

-- The node without the flushes that went into it.
abbrev pub bare_node : Node → Node
bare_node node = record node { flushes = [] }

-- The segment, with bare nodes.
abbrev pub bare_segment : Segment → Segment
bare_segment segment = record segment { tree = map bare_node segment.tree }

-- The manifest, with bare nodes.
abbrev pub bare : model_store.Manifest → model_store.Manifest
bare manifest = record manifest { trees = map bare_segment manifest.trees }

-- The model's manifest with the contents of a program's manifest, and with bare nodes.
abbrev pub bare_of : ℕ → Manifest → model_store.Manifest
bare_of version manifest = bare (manifest_of (λ prefix run. []) version manifest.compactor_epoch manifest.core)

-- The tables that a tree names.
abbrev pub tree_views : LsmTreeState → List View
tree_views tree = tree.l0 ++ flat_map (λ run. run.views) tree.compacted

-- The tables that all trees name.
abbrev pub views_in : ManifestCore → List View
views_in core = flat_map (λ s. tree_views s.1) (trees_with_prefix core)

-- The program's manifest is the stored one, but for the flushes of its nodes, and describes its tables.
pub record IsManifest (manifest : VersionedManifest) (store : model_store.Store) : Type 0 where
  pub same : bare_of manifest.id manifest.manifest ≡ bare store.manifest
  pub views : AllByRecursion (NamesTable store.tables) (views_in manifest.manifest.core)

-- ---- the manifest that a put means

-- The jobs that a put shows, or none.
abbrev pub jobs_shown : Option (Snapshot Compactions) → List JobParts
jobs_shown None = []
jobs_shown (Some jobs) = jobs.value.jobs

-- The spec of a job, or a drain of nothing if there is no such job.
abbrev pub spec_or_none : Option JobParts → JobSpec
spec_or_none None = record { segment = []; sources = []; destination = None }
spec_or_none (Some job) = spec_of job.spec

-- The spec of the job with this id.
abbrev pub spec_in : List JobParts → ℕ → JobSpec
spec_in jobs id = spec_or_none (record_with id jobs)

-- The trees that a change makes of the stored ones. The specs are those of the jobs that a commit does.
abbrev pub changed_trees : (ℕ → JobSpec) → model.ManifestChange → model_store.Store → Trees
changed_trees specs (model.ManifestEpoch epoch) store = store.manifest.trees
changed_trees specs (model.Flush name segment floor tick) store =
    flushed_trees segment name (table_rows store.tables name) store.manifest.trees
changed_trees specs (model.Commit steps) store =
    stepped_all store.tables (λ id. (specs id, outputs_in store.records id)) steps store.manifest.trees

-- The model's manifest that is meant by a program's manifest which is put over this store: its trees are those
-- that the change makes of the stored ones, and all else it has itself.
abbrev pub meant_by : (jobs : List JobParts) (change : model.ManifestChange) (version : ℕ) (manifest : Manifest)
    (store : model_store.Store) → model_store.Manifest
meant_by jobs change version manifest store =
    record (manifest_of (λ prefix run. []) version manifest.compactor_epoch manifest.core)
    { trees = changed_trees (spec_in jobs) change store }

-- The program's manifest has the trees that the change makes of the stored ones, but for the flushes of their
-- nodes, and describes its tables.
pub record HasTrees (value : Manifest) (jobs : List JobParts) (change : model.ManifestChange)
    (store : model_store.Store) : Type 0 where
  pub same : map bare_segment (trees_of (λ prefix run. []) value.core)
      ≡ map bare_segment (changed_trees (spec_in jobs) change store)
  pub views : AllByRecursion (NamesTable store.tables) (views_in value.core)
