-- What the model's poll is given, compared with what a program's poll has.
use Rattle.std.specs.Prelude.{◌≡◌, ◌++◌, IsTrue, flat_map, true, List, []}
use Rattle.std.specs.List.{AllByRecursion}
use Rattle.std.specs.Ordering.{is_le}
use Rattle.row_model.specs.Rows.{key_cmp}
use Rattle.fleet_model.specs.Handles.{describe}
use Rattle.fleet_model.specs.Nodes.{Tables, is_among, table_rows}
use Rattle.fleet_model.specs.Store.{Manifest}
use Rattle.fleet_model.specs.Work.PollStates.{PollInput}
use Rattle.fleet_model.specs.Work.Scheduler.{Scheduler}
use Rattle.fleet_tree.specs.Handles.{handle_of}
use Rattle.fleet_tree.specs.Manifests.{manifest_of}
use Rattle.fleet_tree.specs.Trees.{trees_with_prefix}
use Rattle.fleet_tree.specs.Views.{View}
use Rattle.fleet_tree.specs.declared.handle.SsTableHandle.{SsTableHandle}
use Rattle.fleet_tree.specs.declared.manifest.ManifestCore.{ManifestCore}
use Rattle.fleet_tree.specs.declared.manifest.VersionedManifest.{VersionedManifest}
use Rattle.fleet_tree.specs.declared.tree.LsmTreeState.{LsmTreeState}
use Rattle.fleet_jobs.specs.Jobs.{job_handles}
use Rattle.fleet_jobs.specs.Parts.JobParts.{JobParts}
use Rattle.fleet_book.specs.StateParts.{StateParts}
use Rattle.fleet_book.specs.States.{own_jobs}
use Rattle.fleet_poll.specs.Made.{PrefixesRise, own_core}

-- The handle describes the rows of the table with its id, which was put. The table's first key is not above its last
-- one.
pub record MatchesTable (tables : Tables) (handle : SsTableHandle) : Type 0 where
  pub put : IsTrue (is_among tables handle.id)
  pub describes : handle_of handle ≡ describe handle.id (table_rows tables handle.id)
  pub rising : is_le (key_cmp handle.first_key handle.last_key) ≡ true

-- Each handle is as `MatchesTable` says.
abbrev pub MatchTables : Tables → List SsTableHandle → Type 0
MatchTables tables handles = AllByRecursion (MatchesTable tables) handles

-- A table is named by its own id, and its handle is as `MatchesTable` says.
pub record ViewMatches (tables : Tables) (view : View) : Type 0 where
  pub identity : view.id ≡ view.sst.id
  pub handle : MatchesTable tables view.sst

-- Each view is as `ViewMatches` says.
abbrev pub ViewsMatch : Tables → List View → Type 0
ViewsMatch tables views = AllByRecursion (ViewMatches tables) views

-- The tables of a tree, as it names them.
abbrev pub views_of : LsmTreeState → List View
views_of tree = tree.l0 ++ flat_map (λ run. run.views) tree.compacted

-- The tables of all trees are as `ViewMatches` says.
abbrev pub TreesMatch : Tables → ManifestCore → Type 0
TreesMatch tables core = AllByRecursion (λ s. ViewsMatch tables (views_of s.1)) (trees_with_prefix core)

-- The handles of all tables that jobs name are as `MatchesTable` says.
abbrev pub JobsMatch : Tables → List JobParts → Type 0
JobsMatch tables jobs = AllByRecursion (λ job. MatchTables tables (job_handles job)) jobs

-- The manifest without its trees and its horizon, which are what a poll changes.
abbrev pub without_trees : Manifest → Manifest
without_trees manifest = record manifest { trees = []; horizon = 0 }

-- The model's manifest with the contents of a program's manifest, without its trees and its horizon.
abbrev pub rest_of : VersionedManifest → Manifest
rest_of manifest =
    without_trees (manifest_of (λ prefix run. []) manifest.id manifest.manifest.compactor_epoch manifest.manifest.core)

-- The input has the scheduler of a program's poll. It has the program's manifest but for the trees and the horizon,
-- and its records but for the jobs. The handles that the program has are those of the input's tables.
pub record Sees (input : PollInput) (scheduler : Scheduler) (state : StateParts) : Type 0 where
  pub scheduler_is : input.scheduler ≡ scheduler
  pub manifest : without_trees input.manifest ≡ rest_of state.manifest
  pub version : input.records.version ≡ state.compactions.id
  pub epoch : input.records.epoch ≡ state.compactions.compactions.compactor_epoch
  pub prefixes : PrefixesRise (own_core state)
  pub trees : TreesMatch input.tables (own_core state)
  pub jobs : JobsMatch input.tables (own_jobs state)
