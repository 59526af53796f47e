-- The step by which a worker claims jobs.
use Rattle.std.specs.Prelude.{ℕ, ◌+◌, not, ◌&&◌, Bool, List, [], ◌∷◌, map, filter, flat_map, Option, Some, None}
use Rattle.std.specs.List.{list_all}
use Rattle.fleet_model.specs.Nodes.{names_contain, names, tree_at}
use Rattle.fleet_model.specs.Jobs.{Context, Job, Jobs, ids, ids_eq}
use Rattle.fleet_model.specs.History.{Event, GetManifest, Plan, Claim}
use Rattle.fleet_model.specs.Store.{Manifest, Records}
use Rattle.fleet_model.specs.Trees.{source_pieces}
use Rattle.fleet_model.specs.Work.Records.{Unrecorded, no_contexts, jobs_after}
use Rattle.fleet_model.specs.Work.Attempts.{ClaimInput}
use Rattle.fleet_model.specs.Work.Parties.{Attempt, LiveWorker, without_attempts, with_attempts}
use Rattle.fleet_model.specs.Work.Claims.{stopped_jobs, claimed_jobs, claimed_attempt}
use Rattle.fleet_model.specs.Exchanges.{Plain}
use Rattle.step_model.specs.Courses.Course.{Course, Ends, Calls, gets_records, calls_each, puts_records}
use Rattle.step_model.specs.Courses.Tries.{Try, tries}
use Rattle.step_model.specs.Courses.StepEnds.{StepEnd, Reports, most_refused}

-- The options of a worker.
pub record WorkerOptions : Type 0 where
  pub slots : ℕ  -- the most attempts that a worker runs
  pub most_ranges : ℕ  -- the most ranges of a job
  pub table_size : ℕ  -- a table ends with the row with which it exceeds this, in bytes
  pub retention : ℕ  -- in milliseconds

-- What the history does not record of a change: here the moment alone. No context is published, no
-- cut is kept, and no source tables are set.
abbrev pub at_moment : ℕ → Unrecorded
at_moment moment = record { moment = moment; published = no_contexts; kept_cut = None; tables_of = λ spec. [] }

-- The report of a claim: the attempts that it began, the jobs that it stopped, the jobs that it
-- claimed but did not start, and the attempts that the worker runs from now on.
pub record Claimed : Type 0 where
  pub begun : List Attempt
  pub stopped : List ℕ
  pub released : List ℕ
  pub attempts : List Attempt

-- A claimed job can start if the manifest has all its sources, and these have exactly the tables
-- that the job's record names.
abbrev pub can_start : Manifest → Job → Bool
can_start manifest job =
    let tree = tree_at job.spec.segment manifest.trees in
    list_all (names_contain (names tree)) job.spec.sources
    && ids_eq (source_pieces job.spec.sources tree) job.source_tables

-- The note of the ranges that an attempt begins with. It is made only if the job's record has no
-- context.
abbrev pub plan_of : ClaimInput → Job → List Event
plan_of input job = by (claimed_attempt input job) job.context
  where
    by : Attempt → Option Context → List Event
    by a None = Plan a.job a.number (map (λ range. range.0) a.context.ranges) ∷ []
    by a (Some context) = []

-- The end of a claim, under the manifest that the worker got after its put. Each claimed job that
-- can start begins an attempt. The report names the other claimed jobs as released.
abbrev pub starts_claimed : (input : ClaimInput) (w : LiveWorker) (claimed : Jobs) (stopped : List ℕ)
    → Course (StepEnd Claimed)
starts_claimed input w claimed stopped =
    let started = filter (can_start input.manifest) claimed in
    let begun = map (claimed_attempt input) started in
    calls_each (flat_map (plan_of input) started) (Ends (Reports (record {
      begun = begun;
      stopped = stopped;
      released = ids (filter (λ job. not (can_start input.manifest job)) claimed);
      attempts = with_attempts begun (without_attempts stopped w.attempts);
    })))

-- The claim of these jobs. If there is at least one, the step puts the records, gets the manifest,
-- and starts the jobs under it.
abbrev pub claim_of : (options : WorkerOptions) (moment : ℕ) (w : LiveWorker) (got : Records) (jobs : Jobs)
    (stopped : List ℕ) (again : ℕ → Course (StepEnd Claimed)) → Course (StepEnd Claimed)
claim_of options moment w got [] stopped again =
    Ends
    (Reports (record { begun = []; stopped = stopped; released = []; attempts = without_attempts stopped w.attempts }))
claim_of options moment w got (job ∷ jobs) stopped again =
    let change = Claim w.number (map (λ job. (job.id, job.attempt + 1)) (job ∷ jobs)) in
    puts_records got change got.epoch (jobs_after (at_moment moment) change got.jobs)
    (Calls (Plain GetManifest) (λ met. starts_claimed (record {
      release = w.release;
      manifest = met.manifest;
      moment = moment;
      retention = options.retention;
      most = options.most_ranges;
      tables = met.tables;
    }) w (job ∷ jobs) stopped))
    again

-- A claim after its get of the records. If there are no records, it claims and stops nothing.
abbrev pub claim_by : (options : WorkerOptions) (moment : ℕ) (w : LiveWorker) (got : Option Records)
    (again : ℕ → Course (StepEnd Claimed)) → Course (StepEnd Claimed)
claim_by options moment w None again =
    Ends (Reports (record { begun = []; stopped = []; released = []; attempts = w.attempts }))
claim_by options moment w (Some got) again =
    claim_of options moment w got (claimed_jobs options.slots w got.jobs) (ids (stopped_jobs w got.jobs)) again

-- One try of a claim.
abbrev pub claim_try : WorkerOptions → (moment : ℕ) → LiveWorker → Try Claimed
claim_try options moment w again = gets_records (λ got. claim_by options moment w got again)

-- A claim takes waiting jobs, at most as many as the worker has free slots. It stops each waiting
-- job that the worker still runs, and starts the jobs that it took.
unfoldable pub claim : WorkerOptions → ℕ → LiveWorker → Course (StepEnd Claimed)
claim options moment w = tries (claim_try options moment w) most_refused 0
