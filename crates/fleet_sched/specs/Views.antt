-- What a program shows to a scheduler, and the model's view of it.
use Rattle.std.specs.Prelude.{ℕ, List, [], ◌++◌, filter, flat_map, map, Option, Some, None}
use Rattle.fleet_model.specs.Jobs.{Jobs}
use Rattle.fleet_model.specs.Work.Scheduler as model
use Rattle.fleet_tree.specs.Handles.{handle_of}
use Rattle.fleet_tree.specs.Manifests.{manifest_of}
use Rattle.fleet_tree.specs.Trees.{RunFlushes, trees_with_prefix}
use Rattle.fleet_tree.specs.declared.handle.SsTableHandle.{SsTableHandle}
use Rattle.fleet_tree.specs.declared.tree.LsmTreeState.{LsmTreeState}
use Rattle.fleet_jobs.specs.Parts.JobParts.{JobParts}
use Rattle.fleet_jobs.specs.Jobs.{is_open, job_handles, jobs_of}
use Rattle.fleet_book.specs.VersionedRecords.{VersionedRecords}
use Rattle.fleet_book.specs.declared.view.CompactorStateView.{CompactorStateView}

-- The trees that are shown, each with the prefix of its segment.
abbrev pub trees_in : CompactorStateView → List (List ℕ × LsmTreeState)
trees_in state = trees_with_prefix state.manifest.manifest.core

-- The version of the records, or 0 if there are none.
abbrev pub version_of : Option VersionedRecords → ℕ
version_of None = 0
version_of (Some records) = records.id

-- The epoch of the records, or 0 if there are none.
abbrev pub epoch_of : Option VersionedRecords → ℕ
epoch_of None = 0
epoch_of (Some records) = records.compactions.compactor_epoch

-- The records of jobs that are not over.
abbrev pub open_records : Option VersionedRecords → List JobParts
open_records None = []
open_records (Some records) = filter is_open records.compactions.jobs

-- The jobs that are shown. They are not over.
abbrev pub shown_jobs : CompactorStateView → Jobs
shown_jobs state = jobs_of (open_records state.compactions)

-- The tables of a tree, node by node.
abbrev pub tree_handles : LsmTreeState → List SsTableHandle
tree_handles tree = map (λ view. view.sst) tree.l0 ++ flat_map (λ run. map (λ view. view.sst) run.views) tree.compacted

-- The tables that trees and jobs name.
abbrev pub handles_in : CompactorStateView → List SsTableHandle
handles_in state =
    flat_map (λ s. tree_handles s.1) (trees_in state) ++ flat_map job_handles (open_records state.compactions)

-- The model's view of a state. It has no job that is over, and no count of the bytes that a job has
-- processed. A program does not keep which flushes went into a run, so they are given too.
abbrev pub view_of : (flushes : RunFlushes) → CompactorStateView → model.View
view_of flushes state = record {
  manifest = manifest_of flushes state.manifest.id state.manifest.manifest.compactor_epoch state.manifest.manifest.core;
  records_version = version_of state.compactions;
  records_epoch = epoch_of state.compactions;
  jobs = shown_jobs state;
  handles = map handle_of (handles_in state);
}
