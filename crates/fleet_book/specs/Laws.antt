-- Laws: what a coordinator makes of its jobs and its trees is what the model makes of them, and what merges
-- and trims of jobs keep.
use Rattle.std.specs.Prelude.{◌≡◌, ℕ, ◌<◌, ◌==◌, true, false, not, List, [], ◌∷◌, ◌++◌, filter, flat_map, map, Some, None, bytes_eq}
use Rattle.std.specs.List.{AllByRecursion}
use Rattle.std.specs.List.Sorted.{IsStrictlySortedBy}
use Rattle.row_model.specs.Lists.{Pairs}
use Rattle.row_model.specs.Rows.{key_cmp}
use Rattle.fleet_model.specs.Work.Gates.{names_older}
use Rattle.fleet_model.specs.History.{Join, Move, Drain}
use Rattle.fleet_model.specs.Jobs.{Job, changed_jobs, put_job}
use Rattle.fleet_model.specs.Nodes.{Tables}
use Rattle.fleet_model.specs.Store.{Manifest}
use Rattle.fleet_model.specs.Trees.{by_first_key, source_nodes, source_pieces, stepped_in}
use Rattle.step_model.specs.Steps.Merging as model
use Rattle.fleet_tree.specs.Manifests.{manifest_of}
use Rattle.fleet_tree.specs.Trees.{RunFlushes, newer_than, tree_of, trees_of, trees_with_prefix}
use Rattle.fleet_tree.specs.Views.{View}
use Rattle.fleet_tree.specs.declared.manifest.ManifestCore.{ManifestCore}
use Rattle.fleet_tree.specs.declared.manifest.VersionedManifest.{VersionedManifest}
use Rattle.fleet_tree.specs.declared.run.SortedRun.{SortedRun}
use Rattle.fleet_tree.specs.declared.tree.LsmTreeState.{LsmTreeState}
use Rattle.fleet_book.specs.Finishes.{core_after, kept_runs, kept_views, mark_after, merged_manifest, tree_after}
use Rattle.fleet_jobs.specs.Parts.JobParts.{JobParts}
use Rattle.fleet_jobs.specs.Jobs.{is_open, job_of, jobs_of}
use Rattle.fleet_jobs.specs.Laws.{KeysFit, l0_names, names_of, run_names, view_tables}
use Rattle.fleet_jobs.specs.Moves.{moved_run}
use Rattle.fleet_jobs.specs.Places.{nodes_in, sources_stand}
use Rattle.fleet_jobs.specs.Sources.{name_of}
use Rattle.fleet_jobs.specs.Specs.{destination_of, segment_of, sources_of, spec_of}
use Rattle.fleet_jobs.specs.Taken.{run_with, runs_in, taken_tables, tree_in}
use Rattle.fleet_jobs.specs.declared.source_id.SourceId.{SourceId}
use Rattle.fleet_jobs.specs.declared.spec.CompactionSpec.{CompactionSpec}
use Rattle.fleet_jobs.specs.declared.status.CompactionStatus.TheVariants as own
use Rattle.fleet_book.specs.Records.{AreRising, kept_records, put_record, record_with}
use Rattle.fleet_book.specs.States.{merged_jobs}

-- A drain changes the trees as the model's drain does.
abbrev pub DrainsAreTheModels : Type 0
DrainsAreTheModels = (flushes : RunFlushes) (tables : Tables) (outputs : List ℕ) (job : JobParts) (core : ManifestCore)
    → trees_of flushes (core_after job None core)
    ≡ stepped_in tables (Drain job.id) (spec_of job.spec) outputs (trees_of flushes core)

-- In the job's segment, all flushes that went into the sources are in the run that was made. Each other run of this
-- segment has the flushes that it had.
pub record FlushesFollow (before after : RunFlushes) (spec : CompactionSpec) (made : ℕ)
    (s : List ℕ × LsmTreeState) : Type 0 where
  pub gathered : bytes_eq (segment_of spec) s.0 ≡ true
      → after s.0 made ≡ flat_map (λ node. node.flushes) (source_nodes (names_of spec) (tree_of (before s.0) s.1))
  pub kept : AllByRecursion (λ run. after s.0 run.id ≡ before s.0 run.id) (tree_after spec None s.0 s.1).compacted

-- The flushes that went into runs are as the job leaves them, in each segment.
abbrev pub FlushesFollowIn : (before after : RunFlushes) → CompactionSpec → ℕ → ManifestCore → Type 0
FlushesFollowIn before after spec made core =
    AllByRecursion (FlushesFollow before after spec made) (trees_with_prefix core)

-- A job that makes a run of these tables changes the trees as the model's join of these tables does.
abbrev pub JoinsAreTheModels : Type 0
JoinsAreTheModels =
    (before after : RunFlushes) (tables : Tables) (job : JobParts) (output : SortedRun) (core : ManifestCore)
    → destination_of job.spec ≡ Some output.id → FlushesFollowIn before after job.spec output.id core
    → trees_of after (core_after job (Some output) core)
    ≡ stepped_in tables (Join job.id) (spec_of job.spec) (view_tables output.views) (trees_of before core)

-- In the job's segment, the tables are those of the sources by rising first key.
abbrev pub AreMoved : (flushes : RunFlushes) (tables : Tables) (spec : CompactionSpec) (views : List View)
    (s : List ℕ × LsmTreeState) → Type 0
AreMoved flushes tables spec views s = bytes_eq (segment_of spec) s.0 ≡ true
    → view_tables views ≡ by_first_key tables (source_pieces (names_of spec) (tree_of (flushes s.0) s.1))

-- A job that makes a run of the tables of its sources changes the trees as the model's move does.
abbrev pub MovesAreTheModels : Type 0
MovesAreTheModels = (before after : RunFlushes) (tables : Tables) (outputs : List ℕ) (job : JobParts)
    (output : SortedRun) (core : ManifestCore)
    → destination_of job.spec ≡ Some output.id → FlushesFollowIn before after job.spec output.id core
    → AllByRecursion (AreMoved before tables job.spec output.views) (trees_with_prefix core)
    → trees_of after (core_after job (Some output) core)
    ≡ stepped_in tables (Move job.id) (spec_of job.spec) outputs (trees_of before core)

-- A job that is finished with the run that `trivial_move_output` gives changes the trees as the model's move does. The
-- prefixes of segments rise, and the job names its flushes before its runs.
abbrev pub TrivialMovesAreTheModels : Type 0
TrivialMovesAreTheModels = (before after : RunFlushes) (tables : Tables) (outputs : List ℕ) (job : JobParts)
    (output : SortedRun) (core : ManifestCore)
    → IsStrictlySortedBy key_cmp (map (λ s. s.0) (trees_with_prefix core))
    → names_of job.spec ≡ l0_names job.spec ++ run_names job.spec
    → KeysFit tables (taken_tables job.spec core)
    → moved_run (destination_of job.spec) (taken_tables job.spec core) ≡ Some output
    → FlushesFollowIn before after job.spec output.id core
    → trees_of after (core_after job (Some output) core)
    ≡ stepped_in tables (Move job.id) (spec_of job.spec) outputs (trees_of before core)

-- The ids of the runs fall.
abbrev pub RunsFall : List SortedRun → Type 0
RunsFall runs = Pairs (λ a b. b.id < a.id) runs

-- What a job that made this run does to the runs of its tree: their ids fall, the run that was made is among them, and
-- under each other id there is the run that is no source, as it was.
pub record RunsStay (sources : List SourceId) (output : SortedRun) (before after : List SortedRun) : Type 0 where
  pub fall : RunsFall after
  pub made : run_with (Some output.id) after ≡ Some output
  pub others : (id : ℕ) → (output.id == id) ≡ false
      → run_with (Some id) after ≡ run_with (Some id) (kept_runs sources before)

-- The runs of the tree of the job's segment.
abbrev pub runs_for : CompactionSpec → ManifestCore → List SortedRun
runs_for spec core = runs_in (tree_in (segment_of spec) core)

-- If the runs fall and the sources stand, the runs fall after the job too, and no run is lost.
abbrev pub FinishedRunsStay : Type 0
FinishedRunsStay = (job : JobParts) (output : SortedRun) (core : ManifestCore)
    → destination_of job.spec ≡ Some output.id → sources_stand job.spec core ≡ true → RunsFall (runs_for job.spec core)
    → RunsStay (sources_of job.spec) output (runs_for job.spec core)
    (runs_for job.spec (core_after job (Some output) core))

-- If every flush that is older than a source is a source too, the flushes that stay are those that are newer than the
-- watermark. So a merge with a stored tree brings no source back, and loses no other flush.
abbrev pub FinishedFlushesStay : Type 0
FinishedFlushesStay = (sources : List SourceId) (tree : LsmTreeState)
    → names_older (map name_of sources) (nodes_in tree) ≡ true
    → newer_than tree.last_compacted_l0_sst_view_id tree.l0 ≡ tree.l0
    → newer_than (mark_after sources tree) tree.l0 ≡ kept_views sources tree.l0

-- Inserting a job under a new id is the model's insertion.
abbrev pub NewJobsAreTheModels : Type 0
NewJobsAreTheModels = (new : JobParts) (jobs : List JobParts) → record_with new.id jobs ≡ None
    → jobs_of (put_record new jobs) ≡ put_job (job_of new) (jobs_of jobs)

-- Inserting what a change of the model makes of a job that is there changes the jobs as the model does.
abbrev pub ReplacementsAreTheModels : Type 0
ReplacementsAreTheModels = (change : Job → Job) (old new : JobParts) (jobs : List JobParts)
    → AreRising jobs → record_with new.id jobs ≡ Some old → job_of new ≡ change (job_of old)
    → jobs_of (put_record new jobs) ≡ changed_jobs change (new.id ∷ []) (jobs_of jobs)

-- The model's manifest with the contents of a stored one.
abbrev pub model_manifest : RunFlushes → VersionedManifest → Manifest
model_manifest flushes manifest =
    manifest_of flushes manifest.id manifest.manifest.compactor_epoch manifest.manifest.core

-- A coordinator's manifest after it saw a stored one is the stored one with the trees that the model merges.
abbrev pub MergedManifestsAreTheModels : Type 0
MergedManifestsAreTheModels = (flushes : RunFlushes) (own stored : VersionedManifest)
    → model_manifest flushes (merged_manifest own stored) ≡ record (model_manifest flushes stored) {
      trees = model.merged_trees (trees_of flushes own.manifest.core) (trees_of flushes stored.manifest.core);
    }

-- A coordinator's jobs after it saw stored records are the jobs that the model merges.
abbrev pub MergesAreTheModels : Type 0
MergesAreTheModels = (own stored : List JobParts) → AreRising own
    → jobs_of (merged_jobs own stored) ≡ model.merged_jobs (jobs_of own) (jobs_of stored)

-- A coordinator that sees the same stored records again keeps its jobs as they are.
abbrev pub RepeatedMergesAreIdle : Type 0
RepeatedMergesAreIdle = (own stored : List JobParts) → AreRising own → AreRising stored
    → merged_jobs (merged_jobs own stored) stored ≡ merged_jobs own stored

-- A trim of jobs that are trimmed drops none.
abbrev pub RepeatedTrimsAreIdle : Type 0
RepeatedTrimsAreIdle = (jobs : List JobParts) → kept_records (kept_records jobs) ≡ kept_records jobs

-- A trim keeps all jobs that are not over.
abbrev pub OpenJobsAreKept : Type 0
OpenJobsAreKept = (jobs : List JobParts) → filter is_open (kept_records jobs) ≡ filter is_open jobs

-- The jobs that are over.
abbrev pub over_jobs : List JobParts → List JobParts
over_jobs jobs = filter (λ job. not (is_open job)) jobs

-- The last of the jobs, or none if there are none.
abbrev pub last_of : List JobParts → List JobParts
last_of [] = []
last_of (job ∷ []) = job ∷ []
last_of (job ∷ next ∷ jobs) = last_of (next ∷ jobs)

-- Of the jobs that are over, a trim keeps the last one alone.
abbrev pub LastOverJobsAreKept : Type 0
LastOverJobsAreKept = (jobs : List JobParts) → over_jobs (kept_records jobs) ≡ last_of (over_jobs jobs)
