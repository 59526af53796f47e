-- The loop in which a coordinator polls is a lawful course, and the coordinator fits after it.
use Rattle.std.proofs.Common.{◌≡◌, sym, subst, ℕ, List, [], ◌∷◌, cond, Bool, true, false, Option, None}
use Rattle.std.specs.Prelude.{IsTrue}
use Rattle.row_model.specs.Fold.{IsLawful}
use Rattle.fleet_model.specs.History.{Coordinator}
use Rattle.fleet_model.specs.Work.PollStates.{PollState}
use Rattle.step_model.specs.Past.{World}
use Rattle.step_model.specs.Entries.{did_put_epoch}
use Rattle.step_model.specs.Steps.Merging.{Local}
use Rattle.step_model.specs.Rivals.{Caller}
use Rattle.step_model.specs.Kept.Keeps.{Keeps}
use Rattle.step_model.specs.Fits.{CoordinatorHolds}
use Rattle.step_model.specs.Courses.Course.{Course, Ends}
use Rattle.step_model.specs.Courses.CourseRuns.{End, Gives, Runs, IsLawfulCourse}
use Rattle.step_model.specs.Courses.StepEnds.{StepEnd, Reports, GivesUp, Fenced, NotOwner, NoRecords, Invalid, Declined, OperatorRefuses, BadFlush}
use Rattle.step_model.specs.Steps.PollSteps.{PollAsk, poll}
use Rattle.step_model.specs.Steps.LoopSteps.{LoopEnd, IsIdle, leaves_none, goes_on, polls_at}
use Rattle.step_laws.proofs.Runs.{runs_keep}
use Rattle.commit_laws.proofs.AllCalls.{calls_keep}
use Rattle.course_laws.proofs.Composed.{then_lawful}
use Rattle.coordinator_laws.specs.Loops.{LoopsFit}
use Rattle.coordinator_laws.proofs.Coordinators.{runs_epoch, holds_none, polls_fit}
use Rattle.coordinator_laws.proofs.Course.{polls_are_lawful}

-- The loop is lawful after a poll, if its other turns are.
on_lawful : (who : Caller) (world : World) (others : Course LoopEnd) (end : StepEnd PollState) → IsLawfulCourse who world others → IsLawfulCourse who world (goes_on others end)
on_lawful who world others (Reports p) lawful = by (leaves_none p)
  where
    by : (b : Bool) → IsLawfulCourse who world (cond b (Ends IsIdle) others)
    by true = tt
    by false = lawful
on_lawful who world others (Fenced stored) lawful = tt
on_lawful who world others (GivesUp seen) lawful = lawful
on_lawful who world others NotOwner lawful = lawful
on_lawful who world others NoRecords lawful = lawful
on_lawful who world others Invalid lawful = lawful
on_lawful who world others (Declined message) lawful = lawful
on_lawful who world others (OperatorRefuses message) lawful = lawful
on_lawful who world others (BadFlush fault) lawful = lawful

loop_lawful : (who : Caller) (world : World) (number : ℕ) (ask : PollAsk) (moments : List ℕ) (local : Option Local) → IsLawful who.merge → who.party ≡ Coordinator number → Keeps who.merge world
    → CoordinatorHolds world (record { number = number; epoch = ask.epoch }) local → IsLawfulCourse who world (polls_at ask moments)
unfolding polls_at
loop_lawful who world number ask [] local lawful by kept holds = tt
loop_lawful who world number ask (moment ∷ moments) local lawful by kept holds =
    let one : PollAsk = record ask { moment = moment } in
    let first = polls_are_lawful who world number one local lawful by kept holds in
    then_lawful who (poll one) (goes_on (polls_at ask moments)) world first (λ mid end run. on_lawful who mid (polls_at ask moments) end
    (loop_lawful who mid number ask moments None lawful by (runs_keep who (poll one) (calls_keep who.merge lawful) world mid (Gives end) kept first run)
    (polls_fit who world mid number one local (Gives end) lawful by kept holds run)))

loop_fits : (who : Caller) (old new : World) (number : ℕ) (ask : PollAsk) (moments : List ℕ) (local : Option Local) (end : End LoopEnd) → IsLawful who.merge → who.party ≡ Coordinator number → Keeps who.merge old
    → CoordinatorHolds old (record { number = number; epoch = ask.epoch }) local → Runs who (polls_at ask moments) old new end → CoordinatorHolds new (record { number = number; epoch = ask.epoch }) None
loop_fits who old new number ask moments local end lawful by kept holds run =
    holds_none who new number ask.epoch by holds.counted
    (runs_epoch who ask.epoch (polls_at ask moments) (calls_keep who.merge lawful) old new end kept (record { put = subst (λ party. IsTrue (did_put_epoch party old.store.history ask.epoch)) (sym by) holds.put; recorded = holds.recorded })
    (loop_lawful who old number ask moments local lawful by kept holds) run)

pub loops_fit : LoopsFit
loops_fit = record { lawful = loop_lawful; fits = loop_fits }
