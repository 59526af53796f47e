-- The law on polls.
use Rattle.std.specs.Prelude.{◌≡◌, ℕ, Option}
use Rattle.row_model.specs.Fold.{IsLawful}
use Rattle.fleet_model.specs.History.{Coordinator}
use Rattle.step_model.specs.Past.{World}
use Rattle.step_model.specs.Steps.Merging.{Local}
use Rattle.step_model.specs.Rivals.{Caller}
use Rattle.step_model.specs.Kept.Keeps.{Keeps}
use Rattle.step_model.specs.Fits.{CoordinatorHolds}
use Rattle.step_model.specs.Courses.CourseRuns.{IsLawfulCourse}
use Rattle.step_model.specs.Steps.PollSteps.{PollAsk, poll}

-- A poll of a coordinator that fits is a lawful course under a lawful operator.
abbrev pub PollsAreLawful : Type 0
PollsAreLawful = (who : Caller) (world : World) (number : ℕ) (ask : PollAsk) (local : Option Local)
    → IsLawful who.merge → who.party ≡ Coordinator number → Keeps who.merge world
    → CoordinatorHolds world (record { number = number; epoch = ask.epoch }) local → IsLawfulCourse who world (poll ask)
