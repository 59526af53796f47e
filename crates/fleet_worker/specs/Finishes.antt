-- How a worker ends jobs.
use Rattle.std.specs.Prelude.{◌≡◌, ℕ, Bool, true, false, ◌&&◌, if◌then◌else◌, List, [], ◌∷◌, map, Option, Some, None, option_map, is_some, IfSome, Result, Ok, Err}
use Rattle.fleet_model.specs.Work.Attempts.{finish_cut}
use Rattle.fleet_model.specs.Work.Parties.{Attempt, without_attempts}
use Rattle.fleet_model.specs.Store.{Store}
use Rattle.step_model.specs.Courses.Course.{Course, Ends}
use Rattle.step_model.specs.Courses.CourseRuns.{IsLawfulCourse}
use Rattle.step_model.specs.Steps.MessageSteps.{attempt_run}
use Rattle.step_model.specs.Steps.FinishSteps.{FinishedJob, end_job, end_try, ends_job_by}
use Rattle.step_model.specs.Courses.StepEnds.{StepEnd, NotOwner, Reports}
use Rattle.step_model.specs.Courses.Tries.{Try}
use Rattle.step_model.specs.Views.{StoreView}
use Rattle.course_laws.specs.Messages.{ResultFits}
use Rattle.fleet_rows.specs.declared.errors.SlateDBError.{SlateDBError}
use Rattle.fleet_rows.specs.declared.errors.SlateDBError.TheVariants as error
use Rattle.fleet_jobs.specs.Contexts.{context_of, table_ids}
use Rattle.fleet_jobs.specs.Workers.{release_of}
use Rattle.fleet_book.specs.VersionedRecords.{VersionedRecords}
use Rattle.fleet_book.specs.Versions.{records_of}
use Rattle.fleet_store.specs.Exchanges.{records_put}
use Rattle.fleet_store.specs.Records.{DescribeTables, jobs_or_none}
use Rattle.fleet_finish.specs.Puts.{AreShown, Outputs}
use Rattle.fleet_finish.specs.declared.put.EndedAttempt.{EndedAttempt}
use Rattle.fleet_finish.specs.declared.put.FinishPut.{FinishPut}
use Rattle.fleet_step.specs.Steps.{puts_and}
use Rattle.fleet_worker.specs.Claims.{without_parts}
use Rattle.fleet_worker.specs.Messages.{attempt_with}
use Rattle.fleet_worker.specs.Workers.{AttemptParts, WorkerParts, attempt_of, live_of}

-- The attempt, as the worker ends it at this moment.
abbrev pub ended_by : (moment : ℕ) → WorkerParts → AttemptParts → EndedAttempt
ended_by moment w a = record {
  worker = w.number;
  moment = moment;
  job = a.job;
  number = a.number;
  cut = finish_cut (release_of w.release) (context_of a.ctx);
}

-- The model's report of the end of a job with these tables, after which the worker runs these attempts.
abbrev pub finished_job : Outputs → List Attempt → FinishedJob
finished_job outputs attempts = record { outputs = map table_ids outputs; attempts = attempts }

-- The end of a step that ended a job with these tables, after which the worker runs these attempts.
abbrev pub finish_ends : Outputs → List AttemptParts → Unit {0} → StepEnd FinishedJob
finish_ends outputs attempts done = Reports (finished_job outputs (map attempt_of attempts))

-- The end of a step that ended the job of this attempt.
abbrev pub done_ends : (w : WorkerParts) (a : AttemptParts) (outputs : Outputs) (done : Unit {0}) → StepEnd FinishedJob
done_ends w a outputs done = Reports (finished_job outputs (without_attempts (a.job ∷ []) (live_of w).attempts))

-- The end of the job of the attempt, once it has these tables.
abbrev pub end_of_job : (moment : ℕ) → WorkerParts → AttemptParts → Outputs → Course (StepEnd FinishedJob)
end_of_job moment w a outputs = end_job moment (live_of w) (attempt_of a) (map table_ids outputs)

-- One try to end the job of the attempt.
abbrev pub one_finish : (moment : ℕ) → WorkerParts → AttemptParts → Outputs → Try FinishedJob
one_finish moment w a outputs = end_try moment (live_of w) (attempt_of a) (map table_ids outputs)

-- The try may be made whatever calls of others come in between.
abbrev pub MayFinish : (view : StoreView) → (moment : ℕ) → (w : WorkerParts) (a : AttemptParts) (outputs : Outputs)
    → Type 0
MayFinish view moment w a outputs = (again : ℕ → Course (StepEnd FinishedJob))
    × IsLawfulCourse view.who view.world (one_finish moment w a outputs again)

-- The end of the job over these records.
abbrev pub ends_over : (moment : ℕ) → (w : WorkerParts) (a : AttemptParts) (outputs : Outputs)
    (got : Option VersionedRecords) (again : ℕ → Course (StepEnd FinishedJob)) → Course (StepEnd FinishedJob)
ends_over moment w a outputs got again =
    ends_job_by moment (live_of w) (attempt_of a) (map table_ids outputs) (option_map records_of got) again

-- The end of the job over these records goes on with this put, and then reports. The put describes only tables that the
-- records describe and those that the attempt ends with.
pub record Finishes (moment : ℕ) (w : WorkerParts) (a : AttemptParts) (outputs : Outputs)
    (got : Option VersionedRecords) (put : FinishPut) : Type 0 where
  pub next : (again : ℕ → Course (StepEnd FinishedJob)) → ends_over moment w a outputs got again
      ≡ puts_and (records_put put.version put.value put.why) put.version (Ends (done_ends w a outputs tt)) again
  pub described : (store : Store) → AreShown outputs store → DescribeTables (jobs_or_none got) store
      → DescribeTables put.value.jobs store

-- The same, or without a put the worker does not own the job.
abbrev pub IsFinishOf : (moment : ℕ) → (w : WorkerParts) (a : AttemptParts) (outputs : Outputs)
    (got : Option VersionedRecords) (put : Option FinishPut) → Type 0
IsFinishOf moment w a outputs got None = (again : ℕ → Course (StepEnd FinishedJob))
    → ends_over moment w a outputs got again ≡ Ends NotOwner
IsFinishOf moment w a outputs got (Some put) = Finishes moment w a outputs got put

-- The tables are a result of the attempt at the job with this number, if the worker runs this attempt: the result is
-- whole, and the tables are described as they were put.
pub record IsResult (view : StoreView) (w : WorkerParts) (job number : ℕ) (outputs : Outputs) : Type 0 where
  pub whole : IfSome (attempt_run (live_of w) job number)
      (ResultFits view.who.merge view.world (live_of w) (map table_ids outputs))
  pub shown : IfSome (attempt_run (live_of w) job number) (λ a. AreShown outputs view.world.store)

-- True if an attempt is not run any more after a step that was to end it had this error: the worker does not
-- own the job.
abbrev pub disowns : SlateDBError → Bool
disowns error.NotOwner = true
disowns _ = false

-- True if an attempt is not run any more after a step that was to end it had this result: the job ended, or the worker
-- does not own it.
abbrev pub ends_attempt : {A : Type 0} → Result A SlateDBError → Bool
ends_attempt (Ok done) = true
ends_attempt (Err e) = disowns e

-- The attempts that a worker runs after a step with this result that was to end the attempt at the job with
-- this number.
abbrev pub left_after : {A : Type 0} → Result A SlateDBError → (job number : ℕ) → List AttemptParts → List AttemptParts
left_after result job number attempts = if ends_attempt result && is_some (attempt_with attempts job number)
    then without_parts (job ∷ []) attempts else attempts
