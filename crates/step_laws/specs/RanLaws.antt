-- The laws on runs with the fault that waits.
use Rattle.std.specs.Prelude.{◌≡◌, ℕ, List, true, Option, Some, None, ⊤}
use Rattle.fleet_model.specs.Exchanges.{Fault}
use Rattle.fleet_model.specs.Work.PollStates.{PollState}
use Rattle.step_model.specs.Past.{World}
use Rattle.step_model.specs.Rivals.{Caller}
use Rattle.step_model.specs.Courses.Course.{Course}
use Rattle.step_model.specs.Courses.CourseRuns.{End, Gives, MeetsFault, LacksMemory, Runs}
use Rattle.step_model.specs.Courses.Alone.{AloneEnd, run_alone}
use Rattle.step_model.specs.Courses.Ran.{Ran}
use Rattle.step_model.specs.Courses.StepEnds.{StepEnd}
use Rattle.step_model.specs.Steps.ClaimSteps.{Claimed}
use Rattle.step_model.specs.Steps.BeatSteps.{Beaten}
use Rattle.step_model.specs.Steps.OutputSteps.{Written}
use Rattle.step_model.specs.Steps.FinishSteps.{FinishedJob}

-- The end of a run says the end of the course that ran alone. If memory runs out, it says nothing.
abbrev pub IsAloneEnd : {A : Type 0} → (end : End A) (new : World) (left : Option Fault) (alone : AloneEnd A) → Type 0
IsAloneEnd (Gives answer) new left alone = alone ≡ record { answer = Some answer; store = new.store; fault = left }
IsAloneEnd MeetsFault new left alone = alone ≡ record { answer = None; store = new.store; fault = left }
IsAloneEnd LacksMemory new left alone = ⊤

-- A run with the fault that waits is a run, so all laws on runs apply. If nobody else calls the store, it gives exactly
-- the answer, the store and the fault left that the course gives which runs alone.
pub record RanLaws (A : Type 0) : Type 0 where
  pub are_runs : (who : Caller) (course : Course A) (old new : World) (waits left : Option Fault) (end : End A)
      → Ran who course old new waits left end → Runs who course old new end
  pub alone : (who : Caller) (course : Course A) (old new : World) (waits left : Option Fault) (end : End A)
      → who.alone ≡ true
      → Ran who course old new waits left end
      → IsAloneEnd end new left (run_alone who.line who.party course waits old.store)

-- So it is with each kind of step.
pub record StepsRan : Type 0 where
  pub starts : RanLaws (StepEnd ℕ)
  pub polls : RanLaws (StepEnd PollState)
  pub submits : RanLaws (StepEnd (List ℕ))
  pub claims : RanLaws (StepEnd Claimed)
  pub beats : RanLaws (StepEnd Beaten)
  pub outputs : RanLaws (StepEnd Written)
  pub finishes : RanLaws (StepEnd FinishedJob)
  pub flushes : RanLaws (StepEnd ⊤)
  pub sweeps : RanLaws (List ℕ)
