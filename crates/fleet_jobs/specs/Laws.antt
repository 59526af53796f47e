-- Laws: what jobs take and make of trees, and how their records change, is as the model says.
use Rattle.std.specs.Prelude.{◌≡◌, ℕ, ◌+◌, ◌==◌, Bool, true, false, ◌&&◌, ◌||◌, not, List, [], ◌++◌, map, filter, option_map, Option, Some, None, is_some}
use Rattle.std.specs.List.{AllByRecursion}
use Rattle.std.specs.Ordering.{is_le}
use Rattle.row_model.specs.Rows.{key_cmp}
use Rattle.fleet_model.specs.Invariants.AttemptsFit.{ContextExtends}
use Rattle.fleet_model.specs.Work.Gates.{is_free, reserves_nodes, submit_gate}
use Rattle.fleet_model.specs.Jobs.{Job, JobSpec, Jobs, contains, is_drain, nodes_of}
use Rattle.fleet_model.specs.Invariants.JobsFit.{SourcesStand}
use Rattle.fleet_model.specs.Nodes.{NodeName, is_l0, names, Tables, table_rows, tree_at}
use Rattle.fleet_model.specs.Work.Polls.{PollInput, can_move}
use Rattle.fleet_model.specs.Work.Records.{Unrecorded, beaten_by, claimed_by, finished_by, to_completed, to_failed, to_scheduled, to_waiting}
use Rattle.fleet_model.specs.Sources.{is_apart}
use Rattle.fleet_model.specs.Trees.{by_first_key, first_key, last_key, source_nodes, source_pieces}
use Rattle.fleet_tree.specs.Trees.{RunFlushes, flush_node, run_node, trees_of}
use Rattle.fleet_tree.specs.Views.{View}
use Rattle.fleet_tree.specs.declared.handle.SsTableHandle.{SsTableHandle}
use Rattle.fleet_tree.specs.declared.manifest.ManifestCore.{ManifestCore}
use Rattle.fleet_tree.specs.declared.run.SortedRun.{SortedRun}
use Rattle.fleet_jobs.specs.Parts.ContextParts.{ContextParts}
use Rattle.fleet_jobs.specs.Contexts.{IsContinued, context_of, table_ids}
use Rattle.fleet_jobs.specs.Parts.JobParts.{JobParts}
use Rattle.fleet_jobs.specs.Jobs.{job_of, with_status}
use Rattle.fleet_jobs.specs.Moves.{moved_run}
use Rattle.fleet_jobs.specs.Places.{held_nodes, nodes_at, sources_stand}
use Rattle.fleet_jobs.specs.Sources.{name_of}
use Rattle.fleet_jobs.specs.Specs.{destination_of, segment_of, sources_of, spec_of}
use Rattle.fleet_jobs.specs.Taken.{taken_runs, taken_tables, taken_views}
use Rattle.fleet_jobs.specs.declared.spec.CompactionSpec.{CompactionSpec}
use Rattle.fleet_jobs.specs.declared.status.CompactionStatus.TheVariants as own
use Rattle.fleet_jobs.specs.declared.worker_spec.WorkerSpec.{WorkerSpec}

-- The model's names of the sources.
abbrev pub names_of : CompactionSpec → List NodeName
names_of spec = map name_of (sources_of spec)

-- The ids of the tables of a run.
abbrev pub view_tables : List View → List ℕ
view_tables views = map (λ view. view.sst.id) views

-- The names of the flushes among the sources.
abbrev pub l0_names : CompactionSpec → List NodeName
l0_names spec = filter is_l0 (names_of spec)

-- The names of the runs among the sources.
abbrev pub run_names : CompactionSpec → List NodeName
run_names spec = filter (λ name. not (is_l0 name)) (names_of spec)

-- The flushes that a job takes are the model's flush nodes among its source nodes.
abbrev pub TakenViewsAreTheModels : Type 0
TakenViewsAreTheModels = (flushes : RunFlushes) (spec : CompactionSpec) (core : ManifestCore)
    → map (flush_node (flushes (segment_of spec))) (taken_views spec core)
    ≡ source_nodes (l0_names spec) (tree_at (segment_of spec) (trees_of flushes core))

-- The runs that a job takes are the model's run nodes among its source nodes.
abbrev pub TakenRunsAreTheModels : Type 0
TakenRunsAreTheModels = (flushes : RunFlushes) (spec : CompactionSpec) (core : ManifestCore)
    → map (run_node (flushes (segment_of spec))) (taken_runs spec core)
    ≡ source_nodes (run_names spec) (tree_at (segment_of spec) (trees_of flushes core))

-- If a job names its flushes before its runs, the tables that it takes are the tables of the model's source nodes.
abbrev pub TakenTablesAreTheModels : Type 0
TakenTablesAreTheModels = (flushes : RunFlushes) (spec : CompactionSpec) (core : ManifestCore)
    → names_of spec ≡ l0_names spec ++ run_names spec
    → view_tables (taken_tables spec core)
    ≡ source_pieces (names_of spec) (tree_at (segment_of spec) (trees_of flushes core))

-- The first row of each table has the first key that the table's description gives.
abbrev pub KeysFit : Tables → List View → Type 0
KeysFit tables views = AllByRecursion (λ view. first_key (table_rows tables view.sst.id) ≡ view.sst.first_key) views

-- The run of a move has the destination as its id, and the tables that the model's move gives it.
abbrev pub MovedRunsAreTheModels : Type 0
MovedRunsAreTheModels = (tables : Tables) (destination : Option ℕ) (views : List View) (run : SortedRun)
    → KeysFit tables views → moved_run destination views ≡ Some run
    → (destination ≡ Some run.id) × (view_tables run.views ≡ by_first_key tables (view_tables views))

-- In the model's tables, the first and the last row of a table have the keys that its description gives. The first
-- key is not above the last.
pub record EndsFit (tables : Tables) (view : View) : Type 0 where
  pub first : first_key (table_rows tables view.sst.id) ≡ view.sst.first_key
  pub last : last_key [] (table_rows tables view.sst.id) ≡ view.sst.last_key
  pub rising : is_le (key_cmp view.sst.first_key view.sst.last_key) ≡ true

-- If moves are allowed, a run is made of the tables of a job exactly if the model can move the job. The job is no
-- drain, and names its flushes before its runs.
abbrev pub MovableJobsAreTheModels : Type 0
MovableJobsAreTheModels = (flushes : RunFlushes) (input : PollInput) (spec : CompactionSpec) (core : ManifestCore)
    → is_drain (spec_of spec) ≡ false → names_of spec ≡ l0_names spec ++ run_names spec
    → AllByRecursion (EndsFit input.tables) (taken_tables spec core)
    → (input.options.moves && is_some (moved_run (destination_of spec) (taken_tables spec core)))
    ≡ can_move input (trees_of flushes core) (spec_of spec)

-- A worker of this number, heard of at this moment.
abbrev pub worker_at : (worker moment : ℕ) → Option WorkerSpec
worker_at worker moment = Some (record { worker_id = worker; last_heartbeat_ms = moment })

-- Setting a job Completed is the model's completion.
abbrev pub CompletionsAreTheModels : Type 0
CompletionsAreTheModels = (job : JobParts) → job_of (with_status own.Completed job) ≡ to_completed (job_of job)

-- Setting a job Failed is the model's failure.
abbrev pub FailuresAreTheModels : Type 0
FailuresAreTheModels = (job : JobParts) → job_of (with_status own.Failed job) ≡ to_failed (job_of job)

-- Setting a job Scheduled and taking its worker away is the model's way to make it wait.
abbrev pub WaitsAreTheModels : Type 0
WaitsAreTheModels = (job : JobParts)
    → job_of (record (with_status own.Scheduled job) { worker = None }) ≡ to_waiting (job_of job)

-- Setting a job Scheduled, with its source tables and without a context, is the model's opening.
abbrev pub OpeningsAreTheModels : Type 0
OpeningsAreTheModels = (tables_of : JobSpec → List ℕ) (job : JobParts)
    → job_of (record (with_status own.Scheduled job) { source_tables = tables_of (spec_of job.spec); ctx = None })
    ≡ to_scheduled tables_of (job_of job)

-- Setting a job Running, with a worker and the next attempt, is the model's claim.
abbrev pub ClaimsAreTheModels : Type 0
ClaimsAreTheModels = (worker moment : ℕ) (job : JobParts)
    → job_of (record (with_status own.Running job) { worker = worker_at worker moment; attempt = job.attempt + 1 })
    ≡ claimed_by worker moment (job_of job)

-- Setting the worker's moment and the context is the model's heartbeat.
abbrev pub BeatsAreTheModels : Type 0
BeatsAreTheModels = (worker : ℕ) (unrecorded : Unrecorded) (ctx : Option ContextParts) (job : JobParts)
    → unrecorded.published job.id ≡ option_map context_of ctx
    → job_of (record job { worker = worker_at worker unrecorded.moment; ctx = ctx })
    ≡ beaten_by worker unrecorded (job_of job)

-- Setting a job Compacted, with its tables and its cut and without a context, is the model's finish.
abbrev pub EndsAreTheModels : Type 0
EndsAreTheModels = (worker : ℕ) (unrecorded : Unrecorded) (outputs : List (List SsTableHandle)) (job : JobParts)
    → job_of (record (with_status own.Compacted job) {
      worker = worker_at worker unrecorded.moment;
      ctx = None;
      outputs = outputs;
      cut = unrecorded.kept_cut;
    })
    ≡ finished_by worker unrecorded (map table_ids outputs) (job_of job)

-- A context that continues another one extends it, as the model says.
abbrev pub ContinuedContextsExtend : Type 0
ContinuedContextsExtend = (earlier later : ContextParts) → IsContinued earlier later
    → ContextExtends (context_of earlier) (context_of later)

-- The nodes of the tree that a segment has are the model's.
abbrev pub NodesAreTheModels : Type 0
NodesAreTheModels = (flushes : RunFlushes) (segment : List ℕ) (core : ManifestCore)
    → names (tree_at segment (trees_of flushes core)) ≡ nodes_at segment core

-- If the sources of a job stand as the model says, the job may be finished.
abbrev pub StandingSourcesStand : Type 0
StandingSourcesStand = (flushes : RunFlushes) (job : JobParts) (core : ManifestCore)
    → SourcesStand (trees_of flushes core) (job_of job) → sources_stand job.spec core ≡ true

-- A job that passes the model's gate for submitted jobs may be finished.
abbrev pub SubmittedSourcesStand : Type 0
SubmittedSourcesStand = (flushes : RunFlushes) (jobs : Jobs) (lost : List ℕ) (accepts : JobSpec → Bool)
    (job : JobParts) (core : ManifestCore)
    → submit_gate (trees_of flushes core) jobs lost accepts (job_of job) ≡ None → sources_stand job.spec core ≡ true

-- If no job with the id of a job holds nodes, the job touches no held node exactly if none of its nodes is among the
-- held ones.
abbrev pub HeldNodesDecide : Type 0
HeldNodesDecide = (jobs : Jobs) (lost : List ℕ) (job : Job)
    → AllByRecursion (λ other. (job.id == other.id) ≡ true
    → (reserves_nodes other || contains lost other.id) ≡ false) jobs
    → is_apart (nodes_of job.spec) (held_nodes jobs lost) ≡ is_free jobs lost job
