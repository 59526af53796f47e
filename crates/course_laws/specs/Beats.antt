-- The law on heartbeats.
use Rattle.std.specs.Prelude.{◌≡◌, ℕ}
use Rattle.fleet_model.specs.History.{Worker}
use Rattle.fleet_model.specs.Work.Parties.{LiveWorker}
use Rattle.step_model.specs.Past.{World}
use Rattle.step_model.specs.Rivals.{Caller}
use Rattle.step_model.specs.Kept.Keeps.{Keeps}
use Rattle.step_model.specs.Fits.{WorkerHolds}
use Rattle.step_model.specs.Courses.CourseRuns.{IsLawfulCourse}
use Rattle.step_model.specs.Steps.BeatSteps.{heartbeat}
use Rattle.step_laws.specs.Runs.{CallsKeep}

-- A heartbeat of a worker that fits is a lawful course, if every lawful call keeps the invariant.
abbrev pub BeatsAreLawful : Type 0
BeatsAreLawful = (who : Caller) (world : World) (moment : ℕ) (w : LiveWorker) → CallsKeep who.merge
    → who.party ≡ Worker w.number → Keeps who.merge world → WorkerHolds who.merge world w
    → IsLawfulCourse who world (heartbeat moment w)
