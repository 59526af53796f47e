-- How a manifest and the trees of its segments change if a job is finished or if a stored manifest is seen.
use Rattle.std.specs.Prelude.{ℕ, Bool, true, false, not, nat_lt, find, filter, map, List, [], ◌∷◌, Option, Some, None, bytes_eq, if◌then◌else◌}
use Rattle.std.specs.List.{list_any}
use Rattle.fleet_model.specs.History.{Step, Join, Move, Drain}
use Rattle.fleet_model.specs.Jobs.{Compacted, is_drain, status_eq}
use Rattle.fleet_model.specs.Nodes.{NodeName, L0, Run, name_eq}
use Rattle.fleet_model.specs.Trees.{horizon_after}
use Rattle.fleet_tree.specs.Trees.{from_writer}
use Rattle.fleet_tree.specs.Views.{View}
use Rattle.fleet_tree.specs.declared.manifest.ManifestCore.{ManifestCore}
use Rattle.fleet_tree.specs.declared.manifest.VersionedManifest.{VersionedManifest}
use Rattle.fleet_tree.specs.declared.run.SortedRun.{SortedRun}
use Rattle.fleet_tree.specs.declared.tree.LsmTreeState.{LsmTreeState}
use Rattle.fleet_jobs.specs.Parts.JobParts.{JobParts}
use Rattle.fleet_jobs.specs.Jobs.{with_status}
use Rattle.fleet_book.specs.Records.{put_record}
use Rattle.fleet_jobs.specs.Sources.{name_of}
use Rattle.fleet_jobs.specs.Specs.{segment_of, sources_of, spec_of}
use Rattle.fleet_book.specs.StateParts.{StateParts}
use Rattle.fleet_book.specs.States.{own_jobs}
use Rattle.fleet_jobs.specs.Status.{status_of}
use Rattle.fleet_jobs.specs.Taken.{tree_in}
use Rattle.fleet_book.specs.Versions.{with_jobs}
use Rattle.fleet_jobs.specs.declared.source_id.SourceId.{SourceId}
use Rattle.fleet_jobs.specs.declared.spec.CompactionSpec.{CompactionSpec}
use Rattle.fleet_jobs.specs.declared.status.CompactionStatus.TheVariants as own

-- A coordinator's tree after it saw the stored tree. Without an own tree it is the stored one.
abbrev pub merged_tree : Option LsmTreeState → LsmTreeState → LsmTreeState
merged_tree None stored = stored
merged_tree (Some own) stored = from_writer own stored

-- A stored segment, with the tree that the coordinator makes of its own tree and the stored one.
abbrev pub merged_segment : ManifestCore → List ℕ × LsmTreeState → List ℕ × LsmTreeState
merged_segment own s = (s.0, merged_tree (tree_in s.0 own) s.1)

-- The contents of a stored manifest, with the trees that the coordinator makes of its own and the stored ones.
abbrev pub merged_core : (own stored : ManifestCore) → ManifestCore
merged_core own stored =
    record stored { tree = from_writer own.tree stored.tree; segments = map (merged_segment own) stored.segments }

-- The manifest with these contents, at the same version and epoch.
abbrev pub with_core : ManifestCore → VersionedManifest → VersionedManifest
with_core core manifest = record manifest { manifest = record manifest.manifest { core = core } }

-- The coordinator's manifest after it saw the stored one. But for the trees it is the stored one.
abbrev pub merged_manifest : (own stored : VersionedManifest) → VersionedManifest
merged_manifest own stored = with_core (merged_core own.manifest.core stored.manifest.core) stored

-- True if one of the sources has this name.
abbrev pub is_named : List SourceId → NodeName → Bool
is_named sources name = list_any (λ source. name_eq (name_of source) name) sources

-- The flushes that are no sources, in their order.
abbrev pub kept_views : List SourceId → List View → List View
kept_views sources views = filter (λ view. not (is_named sources (L0 view.id))) views

-- The runs that are no sources, in their order.
abbrev pub kept_runs : List SourceId → List SortedRun → List SortedRun
kept_runs sources runs = filter (λ run. not (is_named sources (Run run.id))) runs

-- Inserts a run in front of the first run with a lower id.
abbrev pub put_run : SortedRun → List SortedRun → List SortedRun
put_run run [] = run ∷ []
put_run run (other ∷ others) = if nat_lt other.id run.id then run ∷ other ∷ others else other ∷ put_run run others

-- The runs, with this one among them if one is given.
abbrev pub with_output : Option SortedRun → List SortedRun → List SortedRun
with_output None runs = runs
with_output (Some run) runs = put_run run runs

-- The id of the flush, or the given mark if there is no flush.
abbrev pub id_or : Option ℕ → Option View → Option ℕ
id_or mark None = mark
id_or mark (Some view) = Some view.id

-- The watermark of a tree after a job: the newest flush among the sources, or the old watermark if no source is
-- a flush of the tree.
abbrev pub mark_after : List SourceId → LsmTreeState → Option ℕ
mark_after sources tree =
    id_or tree.last_compacted_l0_sst_view_id (find (λ view. is_named sources (L0 view.id)) tree.l0)

-- The tree without the sources, and with the run that was made of them. A drain makes no run.
abbrev pub finished_tree : List SourceId → Option SortedRun → LsmTreeState → LsmTreeState
finished_tree sources output tree = record tree {
  l0 = kept_views sources tree.l0;
  compacted = with_output output (kept_runs sources tree.compacted);
  last_compacted_l0_sst_view_id = mark_after sources tree;
}

-- The tree of the segment with this prefix after a job. Only the tree of the job's segment changes.
abbrev pub tree_after : (spec : CompactionSpec) (output : Option SortedRun) (prefix : List ℕ) (tree : LsmTreeState)
    → LsmTreeState
tree_after spec output prefix tree =
    if bytes_eq (segment_of spec) prefix then finished_tree (sources_of spec) output tree else tree

-- The segment after a job.
abbrev pub segment_after : CompactionSpec → Option SortedRun → List ℕ × LsmTreeState → List ℕ × LsmTreeState
segment_after spec output s = (s.0, tree_after spec output s.0 s.1)

-- The step of a job that makes a run: a Compacted job is joined, and any other is moved.
abbrev pub run_step : Bool → ℕ → Step
run_step true id = Join id
run_step false id = Move id

-- The step that finishes a job. A drain drops the sources, whatever the status of its job is.
abbrev pub step_of : JobParts → Step
step_of job = if is_drain (spec_of job.spec) then Drain job.id
    else run_step (status_eq Compacted (status_of job.status)) job.id

-- The horizon after a job, as the model has it.
abbrev pub horizon_by : JobParts → ManifestCore → ℕ
horizon_by job core = horizon_after core.recent_snapshot_min_seq (step_of job) job.cut core.horizon

-- The contents of a manifest after a job, which made this run unless it was a drain.
abbrev pub core_after : JobParts → Option SortedRun → ManifestCore → ManifestCore
core_after job output core = record core {
  tree = tree_after job.spec output [] core.tree;
  segments = map (segment_after job.spec output) core.segments;
  horizon = horizon_by job core;
}

-- The coordinator's state after the job is finished. The job is Completed.
abbrev pub finished_state : JobParts → Option SortedRun → StateParts → StateParts
finished_state job output state = record {
  manifest = with_core (core_after job output state.manifest.manifest.core) state.manifest;
  compactions = with_jobs (put_record (with_status own.Completed job) (own_jobs state)) state.compactions;
}
