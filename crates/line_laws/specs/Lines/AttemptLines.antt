-- The law on attempts: what a worker runs changes by its own lines alone, and an attempt keeps what its claim gave it.
use Rattle.std.specs.Prelude.{◌≡◌, ℕ, IsTrue, List, Some}
use Rattle.std.specs.List.{AllByRecursion}
use Rattle.fleet_model.specs.Jobs.{Job, ids, contains, job_with}
use Rattle.fleet_model.specs.Store.{stored_jobs}
use Rattle.fleet_model.specs.Invariants.AttemptsFit.{ContextExtends}
use Rattle.fleet_model.specs.Work.Parties.{Attempt, LiveWorker, attempt_at, worker_with}
use Rattle.script_model.specs.Script.{Line, ClaimJobs}
use Rattle.script_model.specs.States.{Inputs, State}
use Rattle.line_laws.specs.Ran.{CourseRan}
use Rattle.line_laws.specs.Lines.ClaimLines.{taken_in}
use Rattle.line_laws.specs.Lines.ClaimSettings.{attempt_in}

-- One of these attempts goes on as this one: it has the same job, number, source tables, settings and ranges. For each
-- range it has noted what was noted, and maybe more.
pub record GoesOn (attempts : List Attempt) (a : Attempt) : Type 0 where
  pub before : Attempt
  pub there : attempt_at a.job attempts ≡ Some before
  pub number : a.number ≡ before.number
  pub sources : a.sources ≡ before.sources
  pub context : ContextExtends before.context a.context

-- A claim of the worker in this state began the attempt, at a job that it took.
pub record WasBegun (s : State) (w : LiveWorker) (a : Attempt) : Type 0 where
  pub job : Job
  pub stored : job_with a.job (stored_jobs s.store) ≡ Some job
  pub taken : IsTrue (contains (ids (taken_in s w)) job.id)
  pub is : a ≡ attempt_in s w job

-- How an attempt comes that a worker runs after a line: the worker ran it before, or the line is the worker's claim
-- and began it.
pub data HasCome (line : Line) (n : ℕ) (old : State) (a : Attempt) : Type 0 where
  WentOn : (w : LiveWorker) → worker_with n old.parties ≡ Some w → GoesOn w.attempts a → HasCome line n old a
  HasBegun : (w : LiveWorker) → worker_with n old.parties ≡ Some w → line ≡ ClaimJobs n → WasBegun old w a
      → HasCome line n old a

-- Each attempt that a worker runs after a course of a line has come so.
abbrev pub AttemptsGoOn : Type 0
AttemptsGoOn = (inputs : Inputs) (old new : State) (line : Line) (answer : List ℕ)
    → CourseRan inputs old line answer new → (n : ℕ) (v : LiveWorker) → worker_with n new.parties ≡ Some v
    → AllByRecursion (HasCome line n old) v.attempts
