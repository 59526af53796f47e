-- The law on releases.
use Rattle.std.specs.Prelude.{◌≡◌, ℕ, List, []}
use Rattle.fleet_model.specs.History.{Worker}
use Rattle.fleet_model.specs.Store.{stored_jobs}
use Rattle.fleet_model.specs.Work.Parties.{LiveWorker, live_attempts}
use Rattle.step_model.specs.Past.{World}
use Rattle.step_model.specs.Rivals.{Caller}
use Rattle.step_model.specs.Kept.Keeps.{Keeps}
use Rattle.step_model.specs.Fits.{WorkerHolds}
use Rattle.step_model.specs.Courses.CourseRuns.{Gives, Runs}
use Rattle.step_model.specs.Courses.StepEnds.{Reports}
use Rattle.step_model.specs.Steps.BeatSteps.{release_all}
use Rattle.step_laws.specs.Runs.{CallsKeep}
use Rattle.worker_laws.specs.After.{FitsAfter}

-- After a release that reports, no attempt of the worker is live.
abbrev pub NoneIsLive : Caller → LiveWorker → World → Type 0
NoneIsLive who w old = (new : World) (released : List ℕ) → Runs who (release_all w) old new (Gives (Reports released))
    → live_attempts (stored_jobs new.store) w ≡ []

-- A worker that fits also fits after the step by which it gives its live attempts back, if every
-- lawful call keeps the invariant. None of its attempts is live any more.
abbrev pub ReleasesKeepFit : Type 0
ReleasesKeepFit = (who : Caller) (old : World) (w : LiveWorker) → CallsKeep who.merge → who.party ≡ Worker w.number
    → Keeps who.merge old → WorkerHolds who.merge old w
    → FitsAfter who w (λ (released : List ℕ). w.attempts) old (release_all w) × NoneIsLive who w old
