-- The law on starts of coordinators.
use Rattle.std.specs.Prelude.{◌≡◌, ℕ}
use Rattle.fleet_model.specs.History.{Coordinator}
use Rattle.step_model.specs.Past.{World}
use Rattle.step_model.specs.Rivals.{Caller}
use Rattle.step_model.specs.Courses.CourseRuns.{IsLawfulCourse}
use Rattle.step_model.specs.Steps.PollSteps.{start}

-- A start of a coordinator is a lawful course over any store.
abbrev pub StartsAreLawful : Type 0
StartsAreLawful = (who : Caller) (world : World) (number : ℕ) → who.party ≡ Coordinator number
    → IsLawfulCourse who world start
