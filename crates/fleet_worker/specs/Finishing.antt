-- How a worker finishes a job.
use Rattle.std.specs.Prelude.{◌≡◌, ◌⊎◌, ◌||◌, ℕ, Bool, if◌then◌else◌, List, [], ◌∷◌, map, Option, Some, None, Result, Ok, Err}
use Rattle.step_model.specs.Courses.Course.{Course}
use Rattle.step_model.specs.Courses.StepEnds.{StepEnd, Reports}
use Rattle.step_model.specs.Steps.FinishSteps.{FinishAsk, FinishedJob, finish}
use Rattle.step_model.specs.Views.{StoreView}
use Rattle.fleet_rows.specs.declared.errors.MergeOperatorError.TheVariants.{Callback}
use Rattle.fleet_rows.specs.declared.errors.SlateDBError.{SlateDBError}
use Rattle.fleet_rows.specs.declared.errors.SlateDBError.TheVariants.{MergeOperator}
use Rattle.fleet_jobs.specs.Contexts.{settings_in, table_ids}
use Rattle.fleet_finish.specs.Puts.{Outputs}
use Rattle.fleet_output.specs.Gets.{GotUntil}
use Rattle.fleet_output.specs.Left.{AreWhole, RefusesLeft}
use Rattle.fleet_step.specs.Steps.{Leads, StepRan}
use Rattle.fleet_worker.specs.Claims.{without_parts}
use Rattle.fleet_worker.specs.Finishes.{end_of_job, ends_attempt, finished_job}
use Rattle.fleet_worker.specs.Outputs.{is_refusal}
use Rattle.fleet_worker.specs.Workers.{AttemptParts, WorkerParts, attempt_of, live_of, run_at}

-- What a finish of this attempt is asked with.
abbrev pub asked_all : (moment : ℕ) → WorkerParts → AttemptParts → (size : ℕ) → (refusal : Option (List ℕ)) → FinishAsk
asked_all moment w a size refusal =
    record { moment = moment; worker = live_of w; attempt = attempt_of a; table_size = size; refusal = refusal }

-- The end of a finish with these tables, after which the worker runs these attempts.
abbrev pub all_ends : List AttemptParts → Outputs → StepEnd FinishedJob
all_ends next outputs = Reports (finished_job outputs (map attempt_of next))

-- The course of a finish, given what the operator refused.
abbrev pub finish_of : StoreView → FinishAsk → Course (StepEnd FinishedJob)
finish_of view ask = finish view.who.merge view.world.store.tables ask

-- No fold refuses in what is left of a range of the attempt.
abbrev pub NoFoldRefuses : StoreView → AttemptParts → Type 0
NoFoldRefuses view a = AreWhole view.who.merge view.world.store.tables (settings_in a.ctx) a.tables a.ctx.ranges

-- The step with this result came no further than the gets of source tables.
abbrev pub StopsAtGets : {A : Type 0} → AttemptParts → (old new : StoreView) → Result A SlateDBError → Type 0
StopsAtGets a old new (Ok answer) = ⊥
StopsAtGets a old new (Err e) = GotUntil (table_ids a.tables) old new e

-- A fold refuses in what is left of a range of the attempt, and in no range before it, and this is the operator's
-- message. If there is no message, no fold refuses, or the step came no further than the gets.
abbrev pub IsWhy : {A : Type 0} → AttemptParts → (old new : StoreView) → Result A SlateDBError → Option (List ℕ)
    → Type 0
IsWhy a old new result None = NoFoldRefuses old a ⊎ StopsAtGets a old new result
IsWhy a old new result (Some message) = RefusesLeft old.who.merge old.world.store.tables (settings_in a.ctx) a.tables
    a.ctx.ranges (MergeOperator (Callback message))

-- ---- runs

module _ (moment : ℕ) (w : WorkerParts) (size : ℕ) (old new : StoreView) where
  -- A finish of this attempt ran, after which the worker runs the `next` attempts.
  pub record FinishesAttempt (next : List AttemptParts) (result : Result Outputs SlateDBError) (a : AttemptParts)
      : Type 0 where
    pub refusal : Option (List ℕ)
    pub because : IsWhy a old new result refusal
    pub ran : StepRan (all_ends next) (finish_of old (asked_all moment w a size refusal)) old new result

  -- So ran a finish of the attempt at the job.
  pub record FinishRan (next : List AttemptParts) (result : Result Outputs SlateDBError) (job : ℕ) : Type 0 where
    pub attempt : AttemptParts
    pub runs : run_at w.attempts job ≡ Some attempt
    pub ran : FinishesAttempt next result attempt

  -- All that is left of the attempt was written, and the end of its job follows.
  pub record WroteAll (a : AttemptParts) (outputs : Outputs) : Type 0 where
    pub whole : NoFoldRefuses old a
    pub lead : Leads (finish_of old (asked_all moment w a size None)) old (end_of_job moment w a outputs) new

  -- All that is left was written, or the finish ended before.
  abbrev pub WritesAll : AttemptParts → Result Outputs SlateDBError → Type 0
  WritesAll a (Ok outputs) = WroteAll a outputs
  WritesAll a (Err e) = FinishesAttempt w.attempts (Err e) a

-- ---- after it

-- True if a worker does not run the attempt any more after a finish with this result: the job ended, or the worker does
-- not own it, or the operator refused a fold.
abbrev pub is_left : {A : Type 0} → Result A SlateDBError → Bool
is_left result = ends_attempt result || is_refusal result

-- The attempts that a worker runs after a finish of the job with this result.
abbrev pub left_finished : {A : Type 0} → Result A SlateDBError → (job : ℕ) → List AttemptParts → List AttemptParts
left_finished result job attempts = if is_left result then without_parts (job ∷ []) attempts else attempts
