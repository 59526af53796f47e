-- The laws on two courses, one after the other.
use Rattle.std.specs.Prelude.{◌≡◌, Option}
use Rattle.fleet_model.specs.Exchanges.{Fault}
use Rattle.fleet_model.specs.Work.PollStates.{PollState}
use Rattle.step_model.specs.Past.{World}
use Rattle.step_model.specs.Rivals.{Caller}
use Rattle.step_model.specs.Courses.Course.{Course, then_course}
use Rattle.step_model.specs.Courses.CourseRuns.{End, Gives, MeetsFault, LacksMemory, Runs, IsLawfulCourse}
use Rattle.step_model.specs.Courses.Ran.{Ran}
use Rattle.step_model.specs.Courses.StepEnds.{StepEnd}
use Rattle.step_model.specs.Steps.LoopSteps.{LoopEnd}

-- The first course gave an answer, and the second one ran on from there.
pub record RanOn {A B : Type 0} (who : Caller) (first : Course A) (second : A → Course B) (old new : World)
    (end : End B) : Type 0 where
  pub answer : A
  pub mid : World
  pub begins : Runs who first old mid (Gives answer)
  pub goes : Runs who (second answer) mid new end

-- Or a fault struck the first course, or memory ran out in it.
pub data RanThen {A B : Type 0} (who : Caller) (first : Course A) (second : A → Course B) (old new : World)
    (end : End B) : Type 0 where
  GoesOn : RanOn who first second old new end → RanThen who first second old new end
  IsStruck : end ≡ MeetsFault → Runs who first old new MeetsFault → RanThen who first second old new end
  Lacks : end ≡ LacksMemory → Runs who first old new LacksMemory → RanThen who first second old new end

-- Runs of two courses make a run of both, one after the other. Each run of both is made so. Both together
-- are lawful if the first one is, and the second one is wherever the first one leads. The same is so of runs
-- with the fault that waits.
pub record Composes (A B : Type 0) : Type 0 where
  pub runs : (who : Caller) (first : Course A) (second : A → Course B) (old new : World) (end : End B)
      → RanOn who first second old new end → Runs who (then_course first second) old new end
  pub splits : (who : Caller) (first : Course A) (second : A → Course B) (old new : World) (end : End B)
      → Runs who (then_course first second) old new end → RanThen who first second old new end
  pub struck : (who : Caller) (first : Course A) (second : A → Course B) (old new : World)
      → Runs who first old new MeetsFault → Runs who (then_course first second) old new MeetsFault
  pub lacks : (who : Caller) (first : Course A) (second : A → Course B) (old new : World)
      → Runs who first old new LacksMemory → Runs who (then_course first second) old new LacksMemory
  pub lawful : (who : Caller) (first : Course A) (second : A → Course B) (old : World) → IsLawfulCourse who old first
      → ((mid : World) (answer : A) → Runs who first old mid (Gives answer) → IsLawfulCourse who mid (second answer))
      → IsLawfulCourse who old (then_course first second)
  pub ran : (who : Caller) (first : Course A) (second : A → Course B) (old mid new : World) (answer : A)
      (waits between left : Option Fault) (end : End B) → Ran who first old mid waits between (Gives answer)
      → Ran who (second answer) mid new between left end → Ran who (then_course first second) old new waits left end
  pub ran_struck : (who : Caller) (first : Course A) (second : A → Course B) (old new : World)
      (waits left : Option Fault)
      → Ran who first old new waits left MeetsFault → Ran who (then_course first second) old new waits left MeetsFault
  pub ran_lacks : (who : Caller) (first : Course A) (second : A → Course B) (old new : World)
      (waits left : Option Fault)
      → Ran who first old new waits left LacksMemory → Ran who (then_course first second) old new waits left LacksMemory

-- So it is with the polls of a loop.
abbrev pub LoopsCompose : Type 0
LoopsCompose = Composes (StepEnd PollState) LoopEnd
