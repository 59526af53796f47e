-- The law on finishes.
use Rattle.std.specs.Prelude.{◌≡◌, ℕ, List, Option, Some, None, true, ⊤}
use Rattle.std.specs.List.{AllByRecursion}
use Rattle.row_model.specs.Fold.{Operator, IsLawful}
use Rattle.fleet_model.specs.Nodes.{Tables}
use Rattle.fleet_model.specs.History.{Worker}
use Rattle.fleet_model.specs.Work.Parties.{Attempt}
use Rattle.step_model.specs.Past.{World}
use Rattle.step_model.specs.Rivals.{Caller}
use Rattle.step_model.specs.Kept.Keeps.{Keeps}
use Rattle.step_model.specs.Fits.{WorkerHolds}
use Rattle.step_model.specs.Steps.OutputSteps.{unwritten}
use Rattle.step_model.specs.Steps.FinishSteps.{FinishAsk, finish}
use Rattle.step_model.specs.Courses.CourseRuns.{IsLawfulCourse}
use Rattle.step_laws.specs.Runs.{CallsKeep}
use Rattle.course_laws.specs.Outputs.{DoesRun}

-- If the operator refused no fold, all ranges of the attempt are whole.
abbrev pub WholeUnless : Operator → Tables → Attempt → (refusal : Option (List ℕ)) → Type 0
WholeUnless merge tables a None =
    AllByRecursion (λ range. (unwritten merge tables a range).whole ≡ true) a.context.ranges
WholeUnless merge tables a (Some message) = ⊤

-- A finish of a worker that fits is a lawful course under a lawful operator, if every lawful call
-- keeps the invariant.
abbrev pub FinishesAreLawful : Type 0
FinishesAreLawful = (who : Caller) (world : World) (ask : FinishAsk) → CallsKeep who.merge → IsLawful who.merge
    → who.party ≡ Worker ask.worker.number → Keeps who.merge world → WorkerHolds who.merge world ask.worker
    → DoesRun ask.worker ask.attempt → WholeUnless who.merge world.store.tables ask.attempt ask.refusal
    → IsLawfulCourse who world (finish who.merge world.store.tables ask)
