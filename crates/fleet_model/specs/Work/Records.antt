-- A change of the job records makes new jobs of the old ones.
use Rattle.std.specs.Prelude.{ℕ, ◌+◌, List, [], ◌∷◌, map, Option, Some, None}
use Rattle.fleet_model.specs.Jobs.{JobSpec, Job, Jobs, Context, Submitted, Scheduled, Running, Compacted, Completed, Failed, changed_jobs, put_job, trimmed_jobs}
use Rattle.fleet_model.specs.History.{RecordChange, RecordsEpoch, Submit, Claim, Beat, Finish, Release, Polled, PollChange}

-- What a change of the records depends on and the history does not record. It is the moment, the contexts
-- that a heartbeat publishes, the cut that a finish keeps, and the source tables of a job that is opened.
pub record Unrecorded : Type 0 where
  pub moment : ℕ
  pub published : ℕ → Option Context
  pub kept_cut : Option ℕ
  pub tables_of : JobSpec → List ℕ

-- No job has a context to publish.
abbrev pub no_contexts : ℕ → Option Context
no_contexts job = None

-- The first parts of the pairs.
abbrev pub firsts : {A : Type 0} → List (ℕ × A) → List ℕ
firsts pairs = map (λ p. p.0) pairs

-- The record of a job that is submitted or that a poll adds.
abbrev pub new_job : ℕ × JobSpec → Job
new_job p = record {
  id = p.0;
  spec = p.1;
  status = Submitted;
  lease = None;
  attempt = 0;
  source_tables = [];
  context = None;
  outputs = [];
  kept_cut = None;
}

-- Inserts new jobs among the jobs, by their ids.
abbrev pub with_new : List (ℕ × JobSpec) → Jobs → Jobs
with_new [] jobs = jobs
with_new (p ∷ specs) jobs = with_new specs (put_job (new_job p) jobs)

-- The job after a claim: it is Running with this worker, and its attempt number is raised by one.
abbrev pub claimed_by : (worker moment : ℕ) (job : Job) → Job
claimed_by worker moment job = record job {
  status = Running;
  lease = Some (record { worker = worker; heartbeat = moment });
  attempt = job.attempt + 1;
}

-- The job after a heartbeat, which renews the lease and publishes the context.
abbrev pub beaten_by : ℕ → Unrecorded → Job → Job
beaten_by worker unrecorded job = record job {
  lease = Some (record { worker = worker; heartbeat = unrecorded.moment });
  context = unrecorded.published job.id;
}

-- The job after its attempt finished: it is Compacted, with outputs and without a context.
abbrev pub finished_by : (worker : ℕ) (unrecorded : Unrecorded) (outputs : List (List ℕ)) (job : Job) → Job
finished_by worker unrecorded outputs job = record job {
  status = Compacted;
  lease = Some (record { worker = worker; heartbeat = unrecorded.moment });
  context = None;
  outputs = outputs;
  kept_cut = unrecorded.kept_cut;
}

-- The job after it was freed or released: it waits for a worker again, and keeps its context.
abbrev pub to_waiting : Job → Job
to_waiting job = record job { status = Scheduled; lease = None }

-- The job after it was opened: it waits for a worker, and records the tables of its sources.
abbrev pub to_scheduled : (JobSpec → List ℕ) → Job → Job
to_scheduled tables_of job = record job { status = Scheduled; source_tables = tables_of job.spec; context = None }

-- The job after it was committed, moved or drained.
abbrev pub to_completed : Job → Job
to_completed job = record job { status = Completed }

-- The job after it failed. It has no context.
abbrev pub to_failed : Job → Job
to_failed job = record job { status = Failed; context = None }

-- The jobs after a poll. The jobs that it adds come first, since it may open or end them at once.
abbrev pub after_poll : Unrecorded → PollChange → Jobs → Jobs
after_poll unrecorded change jobs =
    changed_jobs to_failed change.failed
    (changed_jobs to_completed change.completed
    (changed_jobs (to_scheduled unrecorded.tables_of) change.scheduled
    (changed_jobs to_waiting change.freed (with_new change.added jobs))))

-- The jobs after a change, before finished jobs are dropped.
abbrev pub after_change : Unrecorded → RecordChange → Jobs → Jobs
after_change unrecorded (RecordsEpoch epoch) jobs = jobs
after_change unrecorded (Submit specs) jobs = with_new specs jobs
after_change unrecorded (Claim worker attempts) jobs =
    changed_jobs (claimed_by worker unrecorded.moment) (firsts attempts) jobs
after_change unrecorded (Beat worker attempts) jobs = changed_jobs (beaten_by worker unrecorded) (firsts attempts) jobs
after_change unrecorded (Finish worker job attempt outputs) jobs =
    changed_jobs (finished_by worker unrecorded outputs) (job ∷ []) jobs
after_change unrecorded (Release worker attempts) jobs = changed_jobs to_waiting (firsts attempts) jobs
after_change unrecorded (Polled change) jobs = after_poll unrecorded change jobs

-- The jobs after a put of the records that took effect.
abbrev pub jobs_after : Unrecorded → RecordChange → Jobs → Jobs
jobs_after unrecorded change jobs = trimmed_jobs (after_change unrecorded change jobs)
