-- The laws on the loop in which a coordinator polls.
use Rattle.std.specs.Prelude.{◌≡◌, ℕ, List, Option, None}
use Rattle.row_model.specs.Fold.{IsLawful}
use Rattle.fleet_model.specs.History.{Coordinator}
use Rattle.step_model.specs.Past.{World}
use Rattle.step_model.specs.Steps.Merging.{Local}
use Rattle.step_model.specs.Rivals.{Caller}
use Rattle.step_model.specs.Kept.Keeps.{Keeps}
use Rattle.step_model.specs.Fits.{CoordinatorHolds}
use Rattle.step_model.specs.Courses.CourseRuns.{End, Runs, IsLawfulCourse}
use Rattle.step_model.specs.Steps.PollSteps.{PollAsk}
use Rattle.step_model.specs.Steps.LoopSteps.{LoopEnd, polls_at}

-- A loop of polls of a coordinator that fits is a lawful course under a lawful operator, and the coordinator
-- fits after it, however the loop ends, if it holds no local state from then on.
pub record LoopsFit : Type 0 where
  pub lawful : (who : Caller) (world : World) (number : ℕ) (ask : PollAsk) (moments : List ℕ) (local : Option Local)
      → IsLawful who.merge → who.party ≡ Coordinator number → Keeps who.merge world
      → CoordinatorHolds world (record { number = number; epoch = ask.epoch }) local
      → IsLawfulCourse who world (polls_at ask moments)
  pub fits : (who : Caller) (old new : World) (number : ℕ) (ask : PollAsk) (moments : List ℕ) (local : Option Local)
      (end : End LoopEnd)
      → IsLawful who.merge → who.party ≡ Coordinator number → Keeps who.merge old
      → CoordinatorHolds old (record { number = number; epoch = ask.epoch }) local
      → Runs who (polls_at ask moments) old new end
      → CoordinatorHolds new (record { number = number; epoch = ask.epoch }) None
