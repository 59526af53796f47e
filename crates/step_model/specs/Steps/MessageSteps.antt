-- The steps by which a worker takes messages about the attempts that it runs.
use Rattle.std.specs.Prelude.{ℕ, ◌==◌, if◌then◌else◌, List, [], ◌∷◌, Option, Some, None}
use Rattle.fleet_model.specs.Jobs.{Context}
use Rattle.fleet_model.specs.Work.Parties.{Attempt, LiveWorker, attempt_at, without_attempts, put_attempt}
use Rattle.step_model.specs.Courses.Course.{Course, Ends}
use Rattle.step_model.specs.Courses.Tries.{tries}
use Rattle.step_model.specs.Courses.StepEnds.{StepEnd, Reports, NotOwner, most_refused}
use Rattle.step_model.specs.Steps.BeatSteps.{release_try}
use Rattle.step_model.specs.Steps.FinishSteps.{FinishedJob, end_job}

-- The attempt, if there is one and it has this number.
abbrev pub if_numbered : ℕ → Option Attempt → Option Attempt
if_numbered number None = None
if_numbered number (Some a) = if number == a.number then Some a else None

-- The attempt at this job with this number, if the worker runs it.
abbrev pub attempt_run : LiveWorker → (job number : ℕ) → Option Attempt
attempt_run w job number = if_numbered number (attempt_at job w.attempts)

-- ---- an attempt that finished

-- The end of an attempt that finished with these tables for each of its ranges.
abbrev pub ends_run : (moment : ℕ) (w : LiveWorker) (result : List (List ℕ)) (a : Option Attempt)
    → Course (StepEnd FinishedJob)
ends_run moment w result None = Ends NotOwner
ends_run moment w result (Some a) = end_job moment w a result

-- The step by which a worker takes the message that an attempt finished with these tables for each of
-- its ranges. If the worker runs the attempt, the step ends the job as a finish does that has put its
-- tables. If not, the worker does not own the job, and the step calls nothing.
unfoldable pub take_finished : (moment : ℕ) → LiveWorker → (job number : ℕ) → (result : List (List ℕ))
    → Course (StepEnd FinishedJob)
take_finished moment w job number result = ends_run moment w result (attempt_run w job number)

-- ---- an attempt that failed

-- A worker gives the attempt back if it is live, and reports the attempts that it runs from now on.
unfoldable pub release_job : LiveWorker → Attempt → Course (StepEnd (List Attempt))
release_job w a =
    tries
    (release_try w (a ∷ []) (λ released. Ends (Reports (without_attempts (a.job ∷ []) w.attempts)))) most_refused 0

-- The release of an attempt that failed.
abbrev pub gives_run : LiveWorker → Option Attempt → Course (StepEnd (List Attempt))
gives_run w None = Ends NotOwner
gives_run w (Some a) = release_job w a

-- The step by which a worker takes the message that an attempt failed. If the worker runs the attempt,
-- the step gives it back as after a refusal of the operator. If not, the step calls nothing.
unfoldable pub take_failed : LiveWorker → (job number : ℕ) → Course (StepEnd (List Attempt))
take_failed w job number = gives_run w (attempt_run w job number)

-- ---- an attempt that went on

-- The attempts of a worker after this one has noted more tables, as its context has them.
abbrev pub with_context : Context → Attempt → List Attempt → List Attempt
with_context context a attempts = put_attempt (record a { context = context }) (without_attempts (a.job ∷ []) attempts)

-- The attempts of a worker after progress of an attempt, if the worker runs it.
abbrev pub notes_run : LiveWorker → Context → Option Attempt → List Attempt
notes_run w context None = w.attempts
notes_run w context (Some a) = with_context context a w.attempts

-- The step by which a worker takes the message that an attempt has made progress. If the worker runs the
-- attempt, the attempt has this context from now on. If not, the message is dropped. The step calls
-- nothing, and reports the attempts that the worker runs from now on.
unfoldable pub take_progress : LiveWorker → (job number : ℕ) → Context → Course (StepEnd (List Attempt))
take_progress w job number context = Ends (Reports (notes_run w context (attempt_run w job number)))
