-- The laws on the fit of a coordinator after its steps.
use Rattle.std.specs.Prelude.{◌≡◌, ℕ, Option, None}
use Rattle.row_model.specs.Fold.{IsLawful}
use Rattle.fleet_model.specs.History.{Coordinator}
use Rattle.fleet_model.specs.Work.PollStates.{PollState}
use Rattle.step_model.specs.Past.{World}
use Rattle.step_model.specs.Steps.Merging.{Local}
use Rattle.step_model.specs.Rivals.{Caller}
use Rattle.step_model.specs.Kept.Keeps.{Keeps}
use Rattle.step_model.specs.Fits.{CoordinatorHolds}
use Rattle.step_model.specs.Courses.CourseRuns.{End, Gives, Runs}
use Rattle.step_model.specs.Courses.StepEnds.{StepEnd, Reports}
use Rattle.step_model.specs.Steps.PollSteps.{PollAsk, start, poll}

-- Under a lawful operator, a coordinator that started fits with the epoch that its start reports. It
-- holds no local state yet.
abbrev pub StartsFit : Type 0
StartsFit = (who : Caller) (old new : World) (number epoch : ℕ) → IsLawful who.merge → who.party ≡ Coordinator number
    → Keeps who.merge old → Runs who start old new (Gives (Reports epoch))
    → CoordinatorHolds new (record { number = number; epoch = epoch }) None

-- Under a lawful operator, a coordinator that fits does so after its poll, however the poll ends, if
-- it holds no local state from then on.
abbrev pub PollsFit : Type 0
PollsFit = (who : Caller) (old new : World) (number : ℕ) (ask : PollAsk) (local : Option Local)
    (end : End (StepEnd PollState))
    → IsLawful who.merge → who.party ≡ Coordinator number → Keeps who.merge old
    → CoordinatorHolds old (record { number = number; epoch = ask.epoch }) local → Runs who (poll ask) old new end
    → CoordinatorHolds new (record { number = number; epoch = ask.epoch }) None
