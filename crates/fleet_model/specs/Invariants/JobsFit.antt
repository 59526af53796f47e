-- Stored jobs hold no node in common, and their sources are in their trees. The settings of a Compacted job
-- are bounded, and its outputs are whole.
use Rattle.std.specs.Prelude.{◌≡◌, ℕ, ◌≤◌, int_le, ◌⊎◌, Bool, true, false, not, ◌&&◌, ◌||◌, ◌==◌, IsTrue, List, [], Option, Some, None}
use Rattle.std.specs.Option.{unwrap_or}
use Rattle.std.specs.List.{list_any, concat}
use Rattle.row_model.specs.Fold.{Operator}
use Rattle.row_model.specs.Settings.{Settings}
use Rattle.row_model.specs.JobRows.{job_rows}
use Rattle.fleet_model.specs.Nodes.{NodeName, Tree, names, Trees, tree_at}
use Rattle.fleet_model.specs.Jobs.{JobSpec, nodes_of, Job, Jobs, has_status, Scheduled, Running, Compacted, contains}
use Rattle.fleet_model.specs.History.{Entry, Event, PutManifest, Commit, Step, Join, stood}
use Rattle.fleet_model.specs.Trees.{source_pieces}
use Rattle.fleet_model.specs.Sources.{run_ids, all_run_ids, older_nodes, is_whole_stretch, is_apart, is_lowest_or_above}
use Rattle.fleet_model.specs.Work.Gates.{reserves_nodes, is_nonempty}
use Rattle.fleet_model.specs.Work.Attempts.{source_rows, noted_rows}
use Rattle.fleet_model.specs.Store.{Manifest, Store, AreHeld}
use Rattle.row_model.specs.Lists.{Pairs}
use Rattle.fleet_model.specs.Past.Claimed.{settings_of, without_cut}

-- If both jobs hold nodes, they have no node in common.
abbrev pub HoldApart : (a b : Job) → Type 0
HoldApart a b = IsTrue (reserves_nodes a) → IsTrue (reserves_nodes b)
    → IsTrue (is_apart (nodes_of a.spec) (nodes_of b.spec))

-- No two jobs hold the same node.
abbrev pub NodesHeldOnce : Jobs → Type 0
NodesHeldOnce jobs = Pairs HoldApart jobs

-- There is a destination, and it is the lowest source run. If no run is a source, the destination is above
-- every run of its tree and in no tree.
abbrev pub DestinationFits : (trees : Trees) (tree : Tree) (sources : List NodeName) (destination : Option ℕ) → Type 0
DestinationFits trees tree sources None = ⊥
DestinationFits trees tree sources (Some id) =
    IsTrue (is_lowest_or_above id (run_ids sources) (run_ids (names tree)))
    × ((run_ids sources ≡ []) → IsTrue (not (contains (all_run_ids trees) id)))

-- A job has sources. They are in their tree one after the other, with the tables that they had when the job
-- was opened, and the destination fits.
pub record SourcesStand (trees : Trees) (job : Job) : Type 0 where
  pub some : IsTrue (is_nonempty job.spec.sources)
  pub stretch : IsTrue (is_whole_stretch (tree_at job.spec.segment trees) job.spec.sources)
  pub source_tables : source_pieces job.spec.sources (tree_at job.spec.segment trees) ≡ job.source_tables
  pub destination : DestinationFits trees (tree_at job.spec.segment trees) job.spec.sources job.spec.destination

-- True if the step is the join of the job.
abbrev pub is_join_of : ℕ → Step → Bool
is_join_of job (Join other) = job == other
is_join_of job _ = false

-- True if the event is a commit with the join of the job.
abbrev pub joins : ℕ → Event → Bool
joins job (PutManifest (Commit steps)) = list_any (is_join_of job) steps
joins job _ = false

-- True if a commit with the join of the job took effect.
abbrev pub was_joined : List Entry → ℕ → Bool
was_joined history job = list_any (λ entry. joins job entry.event && stood entry.answer) history

-- The sources of a Scheduled or Running job are as `SourcesStand` says. The sources of a Compacted job are
-- so too, or its join took effect.
abbrev pub OpenedStands : Store → Job → Type 0
OpenedStands store job =
    (IsTrue (has_status Scheduled job || has_status Running job) → SourcesStand store.manifest.trees job)
    × (IsTrue (has_status Compacted job)
    → IsTrue (was_joined store.history job.id) ⊎ SourcesStand store.manifest.trees job)

-- The sources are in the tree one after the other, and no node is older than the sources.
abbrev pub AreOldest : Tree → List NodeName → Type 0
AreOldest tree sources = older_nodes sources (names tree) ≡ Some []

-- Settings fit if their floor and tick are at most the stored ones and their cut is at most their floor.
-- Also, `last_run` may be true only if no node is older than the sources.
pub record SettingsFit (manifest : Manifest) (spec : JobSpec) (settings : Settings) : Type 0 where
  pub floor : settings.floor ≤ manifest.floor
  pub cut : settings.cut ≤ settings.floor
  pub tick : IsTrue (int_le settings.tick manifest.tick)
  pub last_run : settings.last_run ≡ true → AreOldest (tree_at spec.segment manifest.trees) spec.sources

-- The cut that a job kept, or the floor if it kept none.
abbrev pub cut_or : (floor : ℕ) → (kept : Option ℕ) → ℕ
cut_or floor kept = unwrap_or kept floor

-- The settings of the attempt that made a job Compacted are those that the history gives, with the cut that
-- the job kept, or their floor. They fit unless the job's join took effect, and their cut is at most the
-- stored floor. If the source tables are held, the outputs hold all rows that a job with these settings
-- makes of them. A sweep may delete the source tables after the join.
pub record OutputsFit (merge : Operator) (store : Store) (specs : ℕ → JobSpec) (job : Job) : Type 0 where
  pub settings : Settings
  pub claimed : settings_of store.tables specs store.history job.id job.attempt ≡ Some (without_cut settings)
  pub cut : settings.cut ≡ cut_or settings.floor job.kept_cut
  pub at_most_floor : settings.cut ≤ store.manifest.floor
  pub fit : IsTrue (was_joined store.history job.id) ⊎ SettingsFit store.manifest job.spec settings
  pub rows : AreHeld store job.source_tables
      → job_rows merge settings (source_rows store.tables job.source_tables)
      ≡ record { rows = noted_rows store.tables (concat job.outputs); whole = true }
