-- The law on outputs.
use Rattle.std.specs.Prelude.{◌≡◌, Some}
use Rattle.row_model.specs.Fold.{IsLawful}
use Rattle.fleet_model.specs.History.{Worker}
use Rattle.fleet_model.specs.Work.Parties.{Attempt, LiveWorker, attempt_at}
use Rattle.step_model.specs.Past.{World}
use Rattle.step_model.specs.Rivals.{Caller}
use Rattle.step_model.specs.Kept.Keeps.{Keeps}
use Rattle.step_model.specs.Fits.{WorkerHolds}
use Rattle.step_model.specs.Steps.OutputSteps.{OutputAsk, output}
use Rattle.step_model.specs.Courses.CourseRuns.{IsLawfulCourse}
use Rattle.step_laws.specs.Runs.{CallsKeep}

-- The worker runs this attempt.
abbrev pub DoesRun : LiveWorker → Attempt → Type 0
DoesRun w a = attempt_at a.job w.attempts ≡ Some a

-- An output of a worker that fits is a lawful course under a lawful operator, if every lawful call
-- keeps the invariant.
abbrev pub OutputsAreLawful : Type 0
OutputsAreLawful = (who : Caller) (world : World) (ask : OutputAsk) → CallsKeep who.merge → IsLawful who.merge
    → who.party ≡ Worker ask.worker.number → Keeps who.merge world → WorkerHolds who.merge world ask.worker
    → DoesRun ask.worker ask.attempt → IsLawfulCourse who world (output who.merge world.store.tables ask)
