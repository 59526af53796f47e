-- The law on the turns of a worker: a claim, and then a finish of each job that it runs.
use Rattle.std.specs.Prelude.{◌≡◌, ℕ, List, [], ◌∷◌, Option}
use Rattle.row_model.specs.Fold.{IsLawful}
use Rattle.fleet_model.specs.History.{Worker}
use Rattle.fleet_model.specs.Work.Parties.{Attempt, LiveWorker, attempt_jobs, without_attempts}
use Rattle.step_model.specs.Past.{World}
use Rattle.step_model.specs.Rivals.{Caller}
use Rattle.step_model.specs.Kept.Keeps.{Keeps}
use Rattle.step_model.specs.Fits.{WorkerHolds}
use Rattle.step_model.specs.Courses.CourseRuns.{Gives, Runs}
use Rattle.step_model.specs.Courses.StepEnds.{StepEnd, Reports, GivesUp}
use Rattle.step_model.specs.Steps.ClaimSteps.{WorkerOptions, Claimed, claim}
use Rattle.step_model.specs.Steps.FinishSteps.{FinishedJob, finish}
use Rattle.course_laws.specs.Outputs.{DoesRun}
use Rattle.course_laws.specs.Finishes.{WholeUnless}

-- What a worker runs after a claim that ended so. A claim that gave up changes nothing.
abbrev pub after_claim : LiveWorker → StepEnd Claimed → LiveWorker
after_claim w (Reports report) = record w { attempts = report.attempts }
after_claim w end = w

-- What a worker runs after a finish of this attempt that ended so. It runs the attempt no more, unless the
-- finish gave up.
abbrev pub after_finish : LiveWorker → Attempt → StepEnd FinishedJob → LiveWorker
after_finish w a (GivesUp seen) = w
after_finish w a end = record w { attempts = without_attempts (a.job ∷ []) w.attempts }

-- A finish of the attempt at this job, by a worker that runs it.
pub record FinishRan (who : Caller) (options : WorkerOptions) (moment job : ℕ) (old : World) (w : LiveWorker)
    (new : World) (v : LiveWorker) : Type 0 where
  pub attempt : Attempt
  pub runs : DoesRun w attempt
  pub at_job : attempt.job ≡ job
  pub refusal : Option (List ℕ)
  pub whole : WholeUnless who.merge old.store.tables attempt refusal
  pub end : StepEnd FinishedJob
  pub run : Runs who (finish who.merge old.store.tables (record {
    moment = moment;
    worker = w;
    attempt = attempt;
    table_size = options.table_size;
    refusal = refusal;
  })) old new (Gives end)
  pub left : v ≡ after_finish w attempt end

-- Finishes of these jobs, one after the other, took the worker from what it ran in the old world to what it
-- runs in the new one.
abbrev pub FinishesRan : (who : Caller) (options : WorkerOptions) (moment : ℕ) → (jobs : List ℕ) → (old : World)
    (w : LiveWorker) (new : World) (v : LiveWorker) → Type 0
FinishesRan who options moment [] old w new v = (new ≡ old) × (v ≡ w)
FinishesRan who options moment (job ∷ jobs) old w new v =
    (mid : World)
    × ((u : LiveWorker)
    × (FinishRan who options moment job old w mid u × FinishesRan who options moment jobs mid u new v))

-- A turn: a claim, and then a finish of each job that the worker runs, in the order of their ids.
pub record TurnRan (who : Caller) (options : WorkerOptions) (moment : ℕ) (old : World) (w : LiveWorker) (new : World)
    (v : LiveWorker) : Type 0 where
  pub mid : World
  pub end : StepEnd Claimed
  pub claims : Runs who (claim options moment w) old mid (Gives end)
  pub finishes : FinishesRan who options moment (attempt_jobs (after_claim w end).attempts) mid
      (after_claim w end) new v

-- Turns at these moments, one after the other.
abbrev pub TurnsRan : (who : Caller) (options : WorkerOptions) → (moments : List ℕ) → (old : World) (w : LiveWorker)
    (new : World) (v : LiveWorker) → Type 0
TurnsRan who options [] old w new v = (new ≡ old) × (v ≡ w)
TurnsRan who options (moment ∷ moments) old w new v =
    (mid : World)
    × ((u : LiveWorker) × (TurnRan who options moment old w mid u × TurnsRan who options moments mid u new v))

-- The store keeps the invariant, and the worker fits it.
pub record IsFit (who : Caller) (world : World) (w : LiveWorker) : Type 0 where
  pub kept : Keeps who.merge world
  pub holds : WorkerHolds who.merge world w
  pub own : who.party ≡ Worker w.number

-- A worker that fits also fits after its turns, under a lawful operator.
abbrev pub TurnsFit : Type 0
TurnsFit = (who : Caller) (options : WorkerOptions) (moments : List ℕ) (old new : World) (w v : LiveWorker)
    → IsLawful who.merge → IsFit who old w → TurnsRan who options moments old w new v → IsFit who new v
