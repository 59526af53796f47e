-- The law on the steps by which workers give attempts back.
use Rattle.std.specs.Prelude.{◌≡◌}
use Rattle.fleet_model.specs.History.{Worker}
use Rattle.fleet_model.specs.Work.Parties.{LiveWorker}
use Rattle.step_model.specs.Past.{World}
use Rattle.step_model.specs.Rivals.{Caller}
use Rattle.step_model.specs.Courses.CourseRuns.{IsLawfulCourse}
use Rattle.step_model.specs.Steps.BeatSteps.{release_all}

-- The step by which a worker gives its live attempts back is a lawful course over any store.
abbrev pub ReleasesAreLawful : Type 0
ReleasesAreLawful = (who : Caller) (world : World) (w : LiveWorker) → who.party ≡ Worker w.number
    → IsLawfulCourse who world (release_all w)
