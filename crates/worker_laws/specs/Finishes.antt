-- The law on finishes.
use Rattle.std.specs.Prelude.{◌≡◌, false}
use Rattle.row_model.specs.Fold.{IsLawful}
use Rattle.fleet_model.specs.History.{Worker}
use Rattle.fleet_model.specs.Store.{stored_jobs}
use Rattle.fleet_model.specs.Work.Parties.{is_live}
use Rattle.step_model.specs.Past.{World}
use Rattle.step_model.specs.Rivals.{Caller}
use Rattle.step_model.specs.Kept.Keeps.{Keeps}
use Rattle.step_model.specs.Fits.{WorkerHolds}
use Rattle.step_model.specs.Courses.CourseRuns.{Gives, Runs}
use Rattle.step_model.specs.Courses.StepEnds.{Reports}
use Rattle.step_model.specs.Steps.FinishSteps.{FinishAsk, FinishedJob, finish}
use Rattle.step_laws.specs.Runs.{CallsKeep}
use Rattle.course_laws.specs.Outputs.{DoesRun}
use Rattle.course_laws.specs.Finishes.{WholeUnless}
use Rattle.worker_laws.specs.After.{FitsAfter}

-- A worker that fits also fits after its finish, under a lawful operator and if every lawful call
-- keeps the invariant. The attempt that it finished is not live any more. If the attempt was not live,
-- or the operator refused a fold, the worker fits with the attempts that it ran before.
abbrev pub FinishesKeepFit : Type 0
FinishesKeepFit = (who : Caller) (old : World) (ask : FinishAsk) → CallsKeep who.merge → IsLawful who.merge
    → who.party ≡ Worker ask.worker.number → Keeps who.merge old → WorkerHolds who.merge old ask.worker
    → DoesRun ask.worker ask.attempt → WholeUnless who.merge old.store.tables ask.attempt ask.refusal
    → FitsAfter who ask.worker (λ (report : FinishedJob). report.attempts) old (finish who.merge old.store.tables ask)
    × ((new : World) (report : FinishedJob)
    → Runs who (finish who.merge old.store.tables ask) old new (Gives (Reports report))
    → is_live (stored_jobs new.store) ask.worker.number ask.attempt ≡ false)
