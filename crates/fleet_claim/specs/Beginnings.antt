-- How the attempts of a claim begin.
use Rattle.std.specs.Prelude.{◌≡◌, ◌&&◌, ◌+◌, ◌++◌, ℕ, Bool, true, false, not, List, [], ◌∷◌, filter, flat_map, map, Option, Some, None}
use Rattle.std.specs.List.{AllByRecursion, list_all}
use Rattle.std.specs.Option.{option_to_list}
use Rattle.fleet_model.specs.Work.Attempts.{ClaimInput}
use Rattle.fleet_model.specs.Work.Claims.{claimed_attempt, may_take}
use Rattle.fleet_model.specs.History as model
use Rattle.fleet_model.specs.Jobs.{Jobs, ids, ids_eq}
use Rattle.fleet_model.specs.Nodes.{NodeName, names_contain}
use Rattle.fleet_model.specs.Work.Parties.{Attempt}
use Rattle.fleet_model.specs.Store.{Store}
use Rattle.fleet_model.specs.Invariants.TreesFit.{IsTable}
use Rattle.step_model.specs.Steps.ClaimSteps.{WorkerOptions, can_start, plan_of}
use Rattle.fleet_rows.specs.declared.settings.Settings.{Settings}
use Rattle.fleet_tree.specs.Manifests.{cut_of}
use Rattle.fleet_tree.specs.declared.manifest.ManifestCore.{ManifestCore}
use Rattle.fleet_tree.specs.declared.manifest.VersionedManifest.{VersionedManifest}
use Rattle.fleet_jobs.specs.Parts.ContextParts.{ContextParts}
use Rattle.fleet_jobs.specs.Contexts.{context_of, table_ids}
use Rattle.fleet_jobs.specs.Parts.JobParts.{JobParts}
use Rattle.fleet_jobs.specs.Jobs.{job_of, jobs_of}
use Rattle.fleet_jobs.specs.Laws.{view_tables}
use Rattle.fleet_jobs.specs.Places.{nodes_at}
use Rattle.fleet_jobs.specs.Sources.{name_of}
use Rattle.fleet_jobs.specs.Specs.{destination_of, segment_of, sources_of}
use Rattle.fleet_jobs.specs.Workers.{release_of}
use Rattle.fleet_jobs.specs.declared.release.Release.{Release}
use Rattle.fleet_jobs.specs.declared.spec.CompactionSpec.{CompactionSpec}
use Rattle.fleet_history.specs.Entries.{event_of}
use Rattle.fleet_history.specs.Notes.{event_of_note}
use Rattle.fleet_history.specs.declared.note.Note.{Note}
use Rattle.fleet_history.specs.declared.note.Note.TheVariants.{Plan}
use Rattle.fleet_store.specs.Handles.{IsDescribed}
use Rattle.fleet_store.specs.Manifests.{IsManifest}
use Rattle.fleet_store.specs.Records.{DescribeTables}
use Rattle.fleet_claim.specs.Contexts.{IsContext}
use Rattle.fleet_claim.specs.Sources.{is_last_in, source_views}
use Rattle.fleet_claim.specs.declared.beginning.ClaimedAttempt.{ClaimedAttempt}
use Rattle.fleet_claim.specs.declared.beginning.Starts.{Starts}
use Rattle.fleet_claim.specs.declared.options.CompactionWorkerOptions.{CompactionWorkerOptions}

-- The model's options.
abbrev pub options_of : CompactionWorkerOptions → WorkerOptions
options_of options = record {
  slots = options.max_concurrent_compactions;
  most_ranges = options.max_subcompactions;
  table_size = options.max_sst_size;
  retention = options.retention_ms;
}

-- What a claim depends on over this store.
abbrev pub input_of : (release : Release) (options : CompactionWorkerOptions) (moment : ℕ) (store : Store) → ClaimInput
input_of release options moment store = record {
  release = release_of release;
  manifest = store.manifest;
  moment = moment;
  retention = options.retention_ms;
  most = options.max_subcompactions;
  tables = store.tables;
}

-- The model's attempt.
abbrev pub claimed_of : ClaimedAttempt → Attempt
claimed_of a = record { job = a.job; number = a.number; sources = a.sources; context = context_of a.ctx }

-- ---- one job

-- True if the manifest has all sources of the job, and they have exactly the tables that the record names.
abbrev pub can_begin : ManifestCore → JobParts → Bool
can_begin core job =
    list_all (names_contain (nodes_at (segment_of job.spec) core)) (map name_of (sources_of job.spec))
    && ids_eq (view_tables (source_views job.spec core)) job.source_tables

-- The settings of an attempt that begins under this manifest, whose tree has these nodes.
abbrev pub settings_at : (core : ManifestCore) (options : CompactionWorkerOptions) (moment : ℕ) (spec : CompactionSpec)
    (nodes : List NodeName) → Settings
settings_at core options moment spec nodes = record {
  floor = core.recent_snapshot_min_seq;
  tick = core.last_l0_clock_tick;
  last_run = is_last_in (destination_of spec) nodes;
  cut = cut_of core moment options.retention_ms;
}

-- The attempt is the one at the job that begins under this manifest.
pub record Begins (release : Release) (options : CompactionWorkerOptions) (moment : ℕ) (core : ManifestCore)
    (job : JobParts) (a : ClaimedAttempt) : Type 0 where
  pub can : can_begin core job ≡ true
  pub same : a.job ≡ job.id
  pub next : a.number ≡ job.attempt + 1
  pub tables : a.sources ≡ job.source_tables
  pub described : a.tables ≡ map (λ view. view.sst) (source_views job.spec core)
  pub context : IsContext (source_views job.spec core) options.max_subcompactions
      (settings_at core options moment job.spec (nodes_at (segment_of job.spec) core)) release job.ctx a.ctx

-- The same, or without an attempt the job cannot start.
abbrev pub IsBeginning : (release : Release) (options : CompactionWorkerOptions) (moment : ℕ) (core : ManifestCore)
    (job : JobParts) (found : Option ClaimedAttempt) → Type 0
IsBeginning release options moment core job None = can_begin core job ≡ false
IsBeginning release options moment core job (Some a) = Begins release options moment core job a

-- The note of the ranges that the attempt begins with.
abbrev pub plan_note : ClaimedAttempt → Note
plan_note a = Plan a.job a.number (map (λ part. part.range) a.ctx.ranges)

-- The notes of an attempt: one, if there is an attempt and no context was published.
abbrev pub notes_of : Option ContextParts → Option ClaimedAttempt → List Note
notes_of None None = []
notes_of None (Some a) = plan_note a ∷ []
notes_of (Some published) None = []
notes_of (Some published) (Some a) = []

-- The job, if no attempt at it begins.
abbrev pub released_at : ℕ → Option ClaimedAttempt → List ℕ
released_at job None = job ∷ []
released_at job (Some a) = []

-- It was added how the job begins.
pub record Adds (release : Release) (options : CompactionWorkerOptions) (moment : ℕ) (core : ManifestCore)
    (job : JobParts) (old new : Starts) : Type 0 where
  pub found : Option ClaimedAttempt
  pub is : IsBeginning release options moment core job found
  pub more_begun : new.begun.items ≡ old.begun.items ++ option_to_list found
  pub more_notes : new.notes.items ≡ old.notes.items ++ notes_of job.ctx found
  pub more_released : new.released.items ≡ old.released.items ++ released_at job.id found

-- ---- all jobs

-- The model's events of these notes.
abbrev pub noted_events : List Note → List model.Event
noted_events notes = map (λ note. event_of (event_of_note note)) notes

-- The attempts, the notes and the released jobs are those of the model's claim of these jobs.
pub record StartsAre (input : ClaimInput) (jobs : Jobs) (starts : Starts) : Type 0 where
  pub attempts : map claimed_of starts.begun.items
      ≡ map (claimed_attempt input) (filter (can_start input.manifest) jobs)
  pub plans : noted_events starts.notes.items ≡ flat_map (plan_of input) (filter (can_start input.manifest) jobs)
  pub others : starts.released.items ≡ ids (filter (λ job. not (can_start input.manifest job)) jobs)

-- The tables that the attempt has noted are described as they were put.
abbrev pub IsShown : Store → ClaimedAttempt → Type 0
IsShown store a = AllByRecursion (λ part. AllByRecursion (IsDescribed store.tables) part.output_ssts) a.ctx.ranges

-- The attempt has the descriptions of its source tables, as they were put.
pub record KnowsSources (store : Store) (a : ClaimedAttempt) : Type 0 where
  pub are : table_ids a.tables ≡ a.sources
  pub described : AllByRecursion (IsDescribed store.tables) a.tables

-- Over each store whose manifest this is, the jobs begin as in the model, if the release may take them. What their
-- attempts have noted is described if their records are.
pub record AreStarts (release : Release) (options : CompactionWorkerOptions) (moment : ℕ)
    (manifest : VersionedManifest) (jobs : List JobParts) (starts : Starts) : Type 0 where
  pub model : (store : Store) → IsManifest manifest store → AllByRecursion (λ table. IsTable table.1) store.tables
      → AllByRecursion (λ job. may_take (release_of release) (job_of job) ≡ true) jobs
      → StartsAre (input_of release options moment store) (jobs_of jobs) starts
  pub shown : (store : Store) → DescribeTables jobs store → AllByRecursion (IsShown store) starts.begun.items
  pub known : (store : Store) → IsManifest manifest store → AllByRecursion (KnowsSources store) starts.begun.items
