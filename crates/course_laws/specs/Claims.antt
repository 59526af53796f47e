-- The law on claims.
use Rattle.std.specs.Prelude.{◌≡◌, ℕ}
use Rattle.fleet_model.specs.History.{Worker}
use Rattle.fleet_model.specs.Work.Parties.{LiveWorker}
use Rattle.step_model.specs.Past.{World}
use Rattle.step_model.specs.Rivals.{Caller}
use Rattle.step_model.specs.Kept.Keeps.{Keeps}
use Rattle.step_model.specs.Courses.CourseRuns.{IsLawfulCourse}
use Rattle.step_model.specs.Steps.ClaimSteps.{WorkerOptions, claim}
use Rattle.step_laws.specs.Runs.{CallsKeep}

-- A worker's claim is a lawful course over any store that meets the invariant, if every lawful call
-- keeps the invariant.
abbrev pub ClaimsAreLawful : Type 0
ClaimsAreLawful = (who : Caller) (world : World) (options : WorkerOptions) (moment : ℕ) (w : LiveWorker)
    → CallsKeep who.merge → Keeps who.merge world → who.party ≡ Worker w.number
    → IsLawfulCourse who world (claim options moment w)
