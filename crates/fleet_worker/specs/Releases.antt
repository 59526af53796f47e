-- How a worker gives jobs back.
use Rattle.std.specs.Prelude.{◌≡◌, ◌==◌, ℕ, Bool, true, if◌then◌else◌, List, [], map, filter, Option, Some, None, option_map, Result, Ok, Err}
use Rattle.std.specs.List.{list_any}
use Rattle.fleet_model.specs.History as model
use Rattle.fleet_model.specs.Work.Records.{jobs_after}
use Rattle.fleet_model.specs.Work.Parties.{Attempt, LiveWorker, is_live, named_attempts}
use Rattle.fleet_model.specs.Store.{Store}
use Rattle.step_model.specs.Steps.ClaimSteps.{at_moment}
use Rattle.fleet_jobs.specs.Parts.JobParts.{JobParts}
use Rattle.fleet_jobs.specs.Jobs.{jobs_of, with_status}
use Rattle.fleet_jobs.specs.declared.status.CompactionStatus.TheVariants.{Scheduled}
use Rattle.fleet_book.specs.declared.compactions.Compactions.{Compactions}
use Rattle.fleet_store.specs.Records.{DescribeTables, jobs_or_none}
use Rattle.step_model.specs.Steps.BeatSteps.{release_by, release_try}
use Rattle.step_model.specs.Courses.Tries.{Try}
use Rattle.step_model.specs.Courses.Course.{Course, Ends}
use Rattle.step_model.specs.Courses.StepEnds.{StepEnd, Reports}
use Rattle.fleet_book.specs.VersionedRecords.{VersionedRecords}
use Rattle.fleet_book.specs.Versions.{records_of}
use Rattle.fleet_store.specs.Exchanges.{records_put}
use Rattle.fleet_rows.specs.declared.errors.SlateDBError.{SlateDBError}
use Rattle.fleet_step.specs.Steps.{puts_and, stops}
use Rattle.fleet_worker.specs.Workers.{AttemptParts, WorkerParts, attempt_of, live_of}
use Rattle.fleet_worker.specs.declared.release.ReleasePut.{ReleasePut}

-- The live ones of these attempts.
abbrev pub live_among : List JobParts → ℕ → List AttemptParts → List Attempt
live_among jobs worker attempts = filter (is_live (jobs_of jobs) worker) (map attempt_of attempts)

-- The same, each by its job and its number.
abbrev pub live_named : List JobParts → ℕ → List AttemptParts → List (ℕ × ℕ)
live_named jobs worker attempts = named_attempts (live_among jobs worker attempts)

-- The record of a job that waits for a worker again.
abbrev pub waiting_record : JobParts → JobParts
waiting_record job = record (with_status Scheduled job) { worker = None }

-- True if one of these attempts is at the job.
abbrev pub is_named : List (ℕ × ℕ) → ℕ → Bool
is_named attempts job = list_any (λ a. a.0 == job) attempts

-- The record of the job, given back if one of these attempts is at it.
abbrev pub given_back : List (ℕ × ℕ) → JobParts → JobParts
given_back attempts job = if is_named attempts job.id then waiting_record job else job

-- The records have these jobs of the model, keep the epoch, and describe no other tables.
pub record MakesRecords (old new : Compactions) (change : model.RecordChange) : Type 0 where
  pub jobs : jobs_of new.jobs ≡ jobs_after (at_moment 0) change (jobs_of old.jobs)
  pub epoch : new.compactor_epoch ≡ old.compactor_epoch
  pub described : (store : Store) → DescribeTables old.jobs store → DescribeTables new.jobs store

-- The end of a release, and one try of it. `again` follows a refused put.
abbrev pub released_are : List ℕ → Course (StepEnd (List ℕ))
released_are jobs = Ends (Reports jobs)

abbrev pub one_release : LiveWorker → Try (List ℕ)
one_release w = release_try w w.attempts released_are

-- A release over these records goes on with this put, and then reports the jobs. The put describes only tables
-- that the records describe.
pub record GivesBack (w : WorkerParts) (got : Option VersionedRecords) (put : ReleasePut) : Type 0 where
  pub next : (again : ℕ → Course (StepEnd (List ℕ)))
      → release_by (live_of w) (live_of w).attempts (option_map records_of got) released_are again
      ≡ puts_and (records_put put.version put.value put.why) put.version (released_are put.jobs) again
  pub described : (store : Store) → DescribeTables (jobs_or_none got) store → DescribeTables put.value.jobs store

-- A release over these records goes on with this put. If there is none, no attempt is live, and the release
-- reports no jobs.
abbrev pub IsReleaseOf : WorkerParts → Option VersionedRecords → Option ReleasePut → Type 0
IsReleaseOf w got None =
    (again : ℕ → Course (StepEnd (List ℕ)))
    → release_by (live_of w) (live_of w).attempts (option_map records_of got) released_are again ≡ released_are []
IsReleaseOf w got (Some put) = GivesBack w got put

-- True if the worker is stopped after the release with this result: it has given its jobs back, or a fault struck a
-- call.
abbrev pub is_over : {A : Type 0} → Result A SlateDBError → Bool
is_over (Ok answer) = true
is_over {A = A} (Err error) = stops {A = A} (Err error)
