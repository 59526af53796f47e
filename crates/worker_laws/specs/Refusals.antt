-- The law on refusals of the operator.
use Rattle.std.specs.Prelude.{◌≡◌, ℕ, false, List, Some}
use Rattle.fleet_model.specs.History.{Worker}
use Rattle.fleet_model.specs.Store.{stored_jobs}
use Rattle.fleet_model.specs.Work.Parties.{Attempt, LiveWorker, is_live}
use Rattle.step_model.specs.Past.{World}
use Rattle.step_model.specs.Rivals.{Caller}
use Rattle.step_model.specs.Kept.Keeps.{Keeps}
use Rattle.step_model.specs.Fits.{WorkerHolds}
use Rattle.step_model.specs.Courses.CourseRuns.{Gives, Runs}
use Rattle.step_model.specs.Courses.StepEnds.{StepEnd, OperatorRefuses}
use Rattle.step_model.specs.Courses.Course.{Course}
use Rattle.step_model.specs.Steps.OutputSteps.{OutputAsk, output}
use Rattle.step_model.specs.Steps.FinishSteps.{FinishAsk, finish}
use Rattle.step_laws.specs.Runs.{CallsKeep}
use Rattle.course_laws.specs.Outputs.{DoesRun}

-- After a run of the course that ends with a refusal of the operator, the attempt is not live.
abbrev pub GivesBack : {A : Type 0} → (who : Caller) (w : LiveWorker) (a : Attempt) (old : World)
    (course : Course (StepEnd A)) → Type 0
GivesBack {A} who w a old course = (new : World) (said : List ℕ)
    → Runs who course old new (Gives (OperatorRefuses said)) → is_live (stored_jobs new.store) w.number a ≡ false

-- Where the operator refuses a fold, an output and a finish give the attempt back, if every lawful
-- call keeps the invariant. The attempt is not live after them.
pub record RefusalsGiveBack : Type 0 where
  pub outputs : (who : Caller) (old : World) (ask : OutputAsk) (message : List ℕ) → ask.refusal ≡ Some message
      → CallsKeep who.merge → who.party ≡ Worker ask.worker.number → Keeps who.merge old
      → WorkerHolds who.merge old ask.worker → DoesRun ask.worker ask.attempt
      → GivesBack who ask.worker ask.attempt old (output who.merge old.store.tables ask)
  pub finishes : (who : Caller) (old : World) (ask : FinishAsk) (message : List ℕ) → ask.refusal ≡ Some message
      → CallsKeep who.merge → who.party ≡ Worker ask.worker.number → Keeps who.merge old
      → WorkerHolds who.merge old ask.worker → DoesRun ask.worker ask.attempt
      → GivesBack who ask.worker ask.attempt old (finish who.merge old.store.tables ask)
