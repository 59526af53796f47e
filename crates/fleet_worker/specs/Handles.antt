-- How a worker handles messages.
use Rattle.std.specs.Prelude.{◌≡◌, ℕ, map, IfOk, IfSome, OnErr, Result, Ok, Err, ⊤}
use Rattle.step_model.specs.Steps.BeatSteps.{heartbeat}
use Rattle.step_model.specs.Steps.ClaimSteps.{Claimed, claim}
use Rattle.step_model.specs.Courses.Course.{Course}
use Rattle.step_model.specs.Steps.MessageSteps.{attempt_run, take_failed, take_finished, take_progress}
use Rattle.step_model.specs.Courses.StepEnds.{StepEnd}
use Rattle.step_model.specs.Views.{StoreView}
use Rattle.worker_laws.specs.Messages.{ProgressFits}
use Rattle.fleet_rows.specs.declared.errors.SlateDBError.{SlateDBError}
use Rattle.fleet_jobs.specs.Parts.ContextParts.{ContextParts}
use Rattle.fleet_jobs.specs.Contexts.{context_of, table_ids}
use Rattle.fleet_claim.specs.Beginnings.{options_of}
use Rattle.fleet_claim.specs.declared.options.CompactionWorkerOptions.{CompactionWorkerOptions}
use Rattle.fleet_finish.specs.Puts.{Outputs}
use Rattle.fleet_step.specs.Steps.{StepRan}
use Rattle.fleet_worker.specs.Beats.{beat_ends}
use Rattle.fleet_worker.specs.Claims.{NamesBegun, claim_ends}
use Rattle.fleet_worker.specs.Finishes.{IsResult, finish_ends, left_after}
use Rattle.fleet_worker.specs.Messages.{IsShownBy, runs_then}
use Rattle.fleet_worker.specs.Workers.{WorkerParts, live_of}
use Rattle.fleet_worker.specs.declared.claim.ClaimReport.{ClaimReport}
use Rattle.fleet_worker.specs.declared.handle.WorkerAnswer.{WorkerAnswer}
use Rattle.fleet_worker.specs.declared.handle.WorkerAnswer.TheVariants as answer
use Rattle.fleet_worker.specs.declared.handle.WorkerMessage.{WorkerMessage}
use Rattle.fleet_worker.specs.declared.handle.WorkerMessage.TheVariants.{CompactionJobFinished, CompactionJobProgress, HeartbeatOwnedJobs, PollCompactions}

-- ---- answers

-- The answer to a message whose step had this result.
abbrev pub answer_of_step : {A : Type 0} → (A → WorkerAnswer) → Result A SlateDBError → Result WorkerAnswer SlateDBError
answer_of_step answer (Ok done) = Ok (answer done)
answer_of_step answer (Err e) = Err e

-- A step ran its course, and this is the answer to it.
pub record StepAnswers {A B : Type 0} (answer : A → WorkerAnswer) (ends : A → StepEnd B)
    (course : Course (StepEnd B)) (old new : StoreView) (result : Result WorkerAnswer SlateDBError) : Type 0 where
  pub done : Result A SlateDBError
  pub answers : result ≡ answer_of_step answer done
  pub ran : StepRan ends course old new done

-- A claim ran its course, and this is the answer to it. The report names the jobs of the attempts that began.
pub record ClaimAnswers (next : WorkerParts) (course : Course (StepEnd Claimed)) (old new : StoreView)
    (result : Result WorkerAnswer SlateDBError) : Type 0 where
  pub done : Result ClaimReport SlateDBError
  pub answers : result ≡ answer_of_step answer.Claimed done
  pub ran : StepRan (claim_ends next.attempts) course old new done
  pub named : IfOk done (NamesBegun next.attempts)

-- ---- an attempt that ended

-- The tables are a result of the attempt, if it ended with tables.
abbrev pub EndFits : StoreView → WorkerParts → (job number : ℕ) → Result Outputs SlateDBError → Type 0
EndFits view w job number (Ok outputs) = IsResult view w job number outputs
EndFits view w job number (Err e) = ⊤

-- The step by which the worker takes the end of the attempt ran, and left the worker so.
abbrev pub RunsEnd : (moment : ℕ) → (w next : WorkerParts) → (job number : ℕ) → Result Outputs SlateDBError
    → (old new : StoreView) → Result WorkerAnswer SlateDBError → Type 0
RunsEnd moment w next job number (Ok outputs) old new result =
    StepAnswers (λ done. answer.Finished) (finish_ends outputs next.attempts)
    (take_finished moment (live_of w) job number (map table_ids outputs)) old new result
RunsEnd moment w next job number (Err e) old new result = StepAnswers (λ done. answer.Released)
    (runs_then next.attempts) (take_failed (live_of w) job number) old new result

-- The attempts that are left after a message that an attempt ended: if it finished, the worker drops it also where it
-- does not own the job. Otherwise an error leaves all attempts.
abbrev pub LeavesEnded : (w next : WorkerParts) → (job number : ℕ) → Result Outputs SlateDBError
    → Result WorkerAnswer SlateDBError → Type 0
LeavesEnded w next job number (Ok outputs) result = next.attempts ≡ left_after result job number w.attempts
LeavesEnded w next job number (Err e) result = OnErr result (next.attempts ≡ w.attempts)

-- ---- messages

-- The context is progress of the attempt, if the worker runs it: it fits the attempt, and the tables that it has noted
-- are described as they were put.
pub record IsProgress (view : StoreView) (w : WorkerParts) (job number : ℕ) (ctx : ContextParts) : Type 0 where
  pub goes : IfSome (attempt_run (live_of w) job number)
      (ProgressFits view.who.merge view.world (live_of w) (context_of ctx))
  pub shown : IfSome (attempt_run (live_of w) job number) (λ a. IsShownBy view.world.store ctx)

-- What the message says fits the worker and the store. A result of an attempt that the worker runs must be whole, and
-- progress of it must fit.
abbrev pub MessageFits : StoreView → WorkerParts → WorkerMessage → Type 0
MessageFits view w (CompactionJobFinished id number ended) = EndFits view w id number ended
MessageFits view w (CompactionJobProgress id number bytes ctx) = IsProgress view w id number ctx
MessageFits view w PollCompactions = ⊤
MessageFits view w HeartbeatOwnedJobs = ⊤

-- The step of the message ran, and left the worker so.
abbrev pub RunsMessage : CompactionWorkerOptions → (moment : ℕ) → (w next : WorkerParts) → WorkerMessage
    → (old new : StoreView) → Result WorkerAnswer SlateDBError → Type 0
RunsMessage options moment w next (CompactionJobFinished id number ended) old new result =
    RunsEnd moment w next id number ended old new result
RunsMessage options moment w next (CompactionJobProgress id number bytes ctx) old new result =
    StepAnswers (λ done. answer.Noted) (runs_then next.attempts)
    (take_progress (live_of w) id number (context_of ctx)) old new result
RunsMessage options moment w next PollCompactions old new result =
    ClaimAnswers next (claim (options_of options) moment (live_of w)) old new result
RunsMessage options moment w next HeartbeatOwnedJobs old new result =
    StepAnswers answer.Beat (beat_ends next.attempts) (heartbeat moment (live_of w)) old new result

-- The attempts that are left after the message.
abbrev pub LeavesAttempts : (w next : WorkerParts) → WorkerMessage → Result WorkerAnswer SlateDBError → Type 0
LeavesAttempts w next (CompactionJobFinished id number ended) result = LeavesEnded w next id number ended result
LeavesAttempts w next (CompactionJobProgress id number bytes ctx) result = OnErr result (next.attempts ≡ w.attempts)
LeavesAttempts w next PollCompactions result = OnErr result (next.attempts ≡ w.attempts)
LeavesAttempts w next HeartbeatOwnedJobs result = OnErr result (next.attempts ≡ w.attempts)
