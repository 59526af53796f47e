-- How a worker sends a heartbeat.
use Rattle.std.specs.Prelude.{◌≡◌, ◌==◌, ◌&&◌, not, ℕ, List, map, filter, find, Option, Some, None, option_map}
use Rattle.fleet_model.specs.History as model
use Rattle.fleet_model.specs.Jobs.{trimmed_jobs}
use Rattle.fleet_model.specs.Work.Parties.{is_live}
use Rattle.fleet_model.specs.Store.{Store}
use Rattle.step_model.specs.Steps.BeatSteps.{Beaten, beat_by}
use Rattle.step_model.specs.Courses.Course.{Course, Ends}
use Rattle.step_model.specs.Courses.StepEnds.{StepEnd, Reports}
use Rattle.fleet_jobs.specs.Parts.JobParts.{JobParts}
use Rattle.fleet_jobs.specs.Jobs.{jobs_of}
use Rattle.fleet_book.specs.Records.{kept_records}
use Rattle.fleet_book.specs.declared.compactions.Compactions.{Compactions}
use Rattle.fleet_history.specs.Changes.{record_change_of}
use Rattle.fleet_book.specs.VersionedRecords.{VersionedRecords}
use Rattle.fleet_book.specs.Versions.{records_of}
use Rattle.fleet_store.specs.Exchanges.{records_put}
use Rattle.fleet_store.specs.Records.{DescribeTables, jobs_or_none}
use Rattle.fleet_worker.specs.declared.beat.BeatPut.{BeatPut}
use Rattle.fleet_worker.specs.declared.beat.BeatReport.{BeatReport}
use Rattle.fleet_worker.specs.Releases.{live_named}
use Rattle.fleet_step.specs.Steps.{puts_and}
use Rattle.fleet_worker.specs.Workers.{AreNoted, AttemptParts, WorkerParts, attempt_of, live_of}

-- The attempts that are live.
abbrev pub live_parts : List JobParts → ℕ → List AttemptParts → List AttemptParts
live_parts jobs worker attempts = filter (λ a. is_live (jobs_of jobs) worker (attempt_of a)) attempts

-- The live attempt at this job, if there is one.
abbrev pub live_at : (jobs : List JobParts) (worker : ℕ) (attempts : List AttemptParts) (id : ℕ) → Option AttemptParts
live_at jobs worker attempts id = find (λ a. (a.job == id) && is_live (jobs_of jobs) worker (attempt_of a)) attempts

-- The jobs of the live attempts, and those of the others.
abbrev pub live_ids : List JobParts → ℕ → List AttemptParts → List ℕ
live_ids jobs worker attempts = map (λ a. a.job) (live_parts jobs worker attempts)

abbrev pub lost_ids : List JobParts → ℕ → List AttemptParts → List ℕ
lost_ids jobs worker attempts =
    map (λ a. a.job) (filter (λ a. not (is_live (jobs_of jobs) worker (attempt_of a))) attempts)

-- The record of a job, beaten by this attempt if there is one.
abbrev pub beaten_record : (worker moment : ℕ) → Option AttemptParts → JobParts → JobParts
beaten_record worker moment None job = job
beaten_record worker moment (Some a) job = record job {
  worker = Some (record { worker_id = worker; last_heartbeat_ms = moment });
  ctx = Some a.ctx;
}

-- The model's report of a heartbeat after which the worker runs these attempts.
abbrev pub beaten_with : List AttemptParts → BeatReport → Beaten
beaten_with attempts report = record {
  beat = report.beat;
  not_owner = report.not_owner;
  attempts = map attempt_of attempts;
}

-- The end of a heartbeat after which the worker runs these attempts.
abbrev pub beat_ends : List AttemptParts → BeatReport → StepEnd Beaten
beat_ends attempts report = Reports (beaten_with attempts report)

-- The end of a heartbeat with this report over these records.
abbrev pub beat_ends_over : WorkerParts → BeatReport × Option VersionedRecords → StepEnd Beaten
beat_ends_over w answer = beat_ends (live_parts (jobs_or_none answer.1) w.number w.attempts) answer.0

-- The report names the jobs of the live attempts and of the others.
pub record IsReport (w : WorkerParts) (jobs : List JobParts) (report : BeatReport) : Type 0 where
  pub beat_is : report.beat ≡ live_ids jobs w.number w.attempts
  pub lost_is : report.not_owner ≡ lost_ids jobs w.number w.attempts

-- The new records are the old ones with each job beaten by the live attempt at it, without the jobs that a put
-- drops.
pub record BeatenRecords (worker moment : ℕ) (attempts : List AttemptParts) (old new : Compactions) : Type 0 where
  pub beaten : List JobParts
  pub each : beaten ≡ map (λ job. beaten_record worker moment (live_at old.jobs worker attempts job.id) job) old.jobs
  pub kept : new.jobs ≡ kept_records beaten
  pub trim : jobs_of new.jobs ≡ trimmed_jobs (jobs_of beaten)
  pub epoch : new.compactor_epoch ≡ old.compactor_epoch

-- The put renews the leases of the live attempts.
pub record IsBeatPut (moment : ℕ) (w : WorkerParts) (got : VersionedRecords) (put : BeatPut) : Type 0 where
  pub at : put.version ≡ got.id
  pub why : record_change_of put.why ≡ model.Beat w.number (live_named got.compactions.jobs w.number w.attempts)
  pub made : BeatenRecords w.number moment w.attempts got.compactions put.value

-- A heartbeat over these records goes on with this put and then reports so.
pub record Beats (moment : ℕ) (w : WorkerParts) (got : Option VersionedRecords) (report : BeatReport)
    (put : BeatPut) : Type 0 where
  pub next : (again : ℕ → Course (StepEnd Beaten)) → beat_by moment (live_of w) (option_map records_of got) again
      ≡ puts_and (records_put put.version put.value put.why) put.version (Ends (beat_ends_over w (report, got))) again
  pub described : (store : Store) → DescribeTables (jobs_or_none got) store → AreNoted w.attempts store
      → DescribeTables put.value.jobs store

-- The same, or without a put it reports so at once.
abbrev pub IsBeatOf : (moment : ℕ) (w : WorkerParts) (got : Option VersionedRecords) (report : BeatReport)
    (put : Option BeatPut) → Type 0
IsBeatOf moment w got report None =
    (again : ℕ → Course (StepEnd Beaten)) → beat_by moment (live_of w) (option_map records_of got) again
    ≡ Ends (beat_ends_over w (report, got))
IsBeatOf moment w got report (Some put) = Beats moment w got report put
