-- How a worker takes messages about its attempts.
use Rattle.std.specs.Prelude.{◌≡◌, ◌==◌, ℕ, if◌then◌else◌, List, [], ◌∷◌, map, IfSome, Option, Some, None, option_map}
use Rattle.std.specs.List.{AllByRecursion}
use Rattle.row_model.specs.Fold.{IsLawful}
use Rattle.fleet_model.specs.Work.Parties.{Attempt, LiveWorker, without_attempts}
use Rattle.fleet_model.specs.Store.{Store}
use Rattle.step_model.specs.Steps.BeatSteps.{release_by, release_try}
use Rattle.step_model.specs.Courses.Course.{Course, Ends}
use Rattle.step_model.specs.Steps.MessageSteps.{attempt_run}
use Rattle.step_model.specs.Courses.StepEnds.{StepEnd, Reports}
use Rattle.step_model.specs.Courses.Tries.{Try}
use Rattle.step_model.specs.Views.{StoreView}
use Rattle.worker_laws.specs.Messages.{ProgressFits}
use Rattle.fleet_jobs.specs.Parts.ContextParts.{ContextParts}
use Rattle.fleet_jobs.specs.Contexts.{context_of}
use Rattle.fleet_book.specs.VersionedRecords.{VersionedRecords}
use Rattle.fleet_book.specs.Versions.{records_of}
use Rattle.fleet_store.specs.Exchanges.{records_put}
use Rattle.fleet_store.specs.Handles.{IsDescribed}
use Rattle.fleet_store.specs.Records.{DescribeTables, jobs_or_none}
use Rattle.fleet_step.specs.Steps.{puts_and}
use Rattle.fleet_worker.specs.Claims.{put_part, without_parts}
use Rattle.fleet_worker.specs.Workers.{AttemptParts, IsReady, WorkerParts, attempt_of, live_of, run_at}
use Rattle.fleet_worker.specs.declared.release.ReleasePut.{ReleasePut}

-- The attempt, if there is one and it has this number.
abbrev pub if_numbered : ℕ → Option AttemptParts → Option AttemptParts
if_numbered number None = None
if_numbered number (Some a) = if number == a.number then Some a else None

-- The attempt at the job with this number, if one of these is.
abbrev pub attempt_with : List AttemptParts → (job number : ℕ) → Option AttemptParts
attempt_with attempts job number = if_numbered number (run_at attempts job)

-- The end of a step after which the worker runs these attempts.
abbrev pub runs_then : List AttemptParts → Unit {0} → StepEnd (List Attempt)
runs_then attempts done = Reports (map attempt_of attempts)

-- The end of the release of an attempt: the worker does not run it any more.
abbrev pub is_gone : LiveWorker → Attempt → List ℕ → Course (StepEnd (List Attempt))
is_gone w a released = Ends (Reports (without_attempts (a.job ∷ []) w.attempts))

-- One try of the release of an attempt.
abbrev pub one_return : LiveWorker → Attempt → Try (List Attempt)
one_return w a = release_try w (a ∷ []) (is_gone w a)

-- The end of the release of an attempt, as the program tells it.
abbrev pub gone_ends : WorkerParts → AttemptParts → Unit {0} → StepEnd (List Attempt)
gone_ends w a done = Reports (without_attempts (a.job ∷ []) (live_of w).attempts)

-- A release of the attempt over these records goes on with this put. The put describes only tables that the records
-- describe.
pub record ReturnsOne (w : WorkerParts) (a : AttemptParts) (got : Option VersionedRecords)
    (put : ReleasePut) : Type 0 where
  pub next : (again : ℕ → Course (StepEnd (List Attempt)))
      → release_by (live_of w) (attempt_of a ∷ []) (option_map records_of got)
      (is_gone (live_of w) (attempt_of a)) again
      ≡ puts_and (records_put put.version put.value put.why) put.version (Ends (gone_ends w a tt)) again
  pub described : (store : Store) → DescribeTables (jobs_or_none got) store → DescribeTables put.value.jobs store

-- The same, or without a put the attempt is not live.
abbrev pub IsReturnOf : (w : WorkerParts) (a : AttemptParts) (got : Option VersionedRecords) (put : Option ReleasePut)
    → Type 0
IsReturnOf w a got None = (again : ℕ → Course (StepEnd (List Attempt)))
    → release_by (live_of w) (attempt_of a ∷ []) (option_map records_of got)
    (is_gone (live_of w) (attempt_of a)) again ≡ Ends (gone_ends w a tt)
IsReturnOf w a got (Some put) = ReturnsOne w a got put

-- ---- progress

-- The attempts after the progress of this attempt: it has this context from now on. They stay if there is none.
abbrev pub went_on : ContextParts → Option AttemptParts → List AttemptParts → List AttemptParts
went_on ctx None attempts = attempts
went_on ctx (Some a) attempts = put_part (record a { ctx = ctx }) (without_parts (a.job ∷ []) attempts)

-- The tables that the context has noted are described as they were put.
abbrev pub IsShownBy : Store → ContextParts → Type 0
IsShownBy store ctx = AllByRecursion (λ part. AllByRecursion (IsDescribed store.tables) part.output_ssts) ctx.ranges

-- A worker that is ready for a step over a store and takes progress that fits is ready after it.
pub record StaysReady (w : WorkerParts) (job number : ℕ) (ctx : ContextParts) (next : WorkerParts) : Type 0 where
  pub over : (view : StoreView) → IsLawful view.who.merge → IsReady view w
      → IfSome (attempt_run (live_of w) job number)
      (ProgressFits view.who.merge view.world (live_of w) (context_of ctx))
      → IfSome (attempt_run (live_of w) job number) (λ a. IsShownBy view.world.store ctx) → IsReady view next
