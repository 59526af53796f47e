-- The laws on runs of steps: they keep the invariant if each lawful call does.
use Rattle.std.specs.Prelude.{ℕ, List, ⊤}
use Rattle.row_model.specs.Fold.{Operator}
use Rattle.fleet_model.specs.Work.PollStates.{PollState}
use Rattle.fleet_model.specs.Exchanges.{Exchange}
use Rattle.step_model.specs.Past.{World}
use Rattle.step_model.specs.Rivals.{Caller, Rivals}
use Rattle.step_model.specs.Kept.Keeps.{Keeps}
use Rattle.step_model.specs.Courses.Course.{Course}
use Rattle.step_model.specs.Courses.CourseRuns.{End, Runs, IsLawfulCourse}
use Rattle.step_model.specs.Courses.StepEnds.{StepEnd}
use Rattle.step_model.specs.Steps.ClaimSteps.{Claimed}
use Rattle.step_model.specs.Steps.BeatSteps.{Beaten}
use Rattle.step_model.specs.Steps.OutputSteps.{Written}
use Rattle.step_model.specs.Steps.FinishSteps.{FinishedJob}
use Rattle.step_laws.specs.CallLaws.{CallKeeps}

-- Every lawful call keeps the invariant.
abbrev pub CallsKeep : Operator → Type 0
CallsKeep merge = (x : Exchange) → CallKeeps merge x

-- A run of a lawful course keeps the invariant, however it ends.
abbrev pub RunKeeps : {A : Type 0} → Caller → Course A → Type 0
RunKeeps {A} who course = (old new : World) (end : End A) → Keeps who.merge old → IsLawfulCourse who old course
    → Runs who course old new end → Keeps who.merge new

-- The runs of all lawful courses with such an answer keep the invariant, if every lawful call does.
abbrev pub CoursesKeep : Type 0 → Type 0
CoursesKeep A = (who : Caller) (course : Course A) → CallsKeep who.merge → RunKeeps who course

-- If every lawful call keeps the invariant, then so do calls of others, and so do the runs of all
-- steps that are lawful courses.
pub record LawfulRunsKeep : Type 0 where
  pub rivals : (who : Caller) (old new : World) → CallsKeep who.merge → Keeps who.merge old → Rivals who old new
      → Keeps who.merge new
  pub starts : CoursesKeep (StepEnd ℕ)
  pub polls : CoursesKeep (StepEnd PollState)
  pub submits : CoursesKeep (StepEnd (List ℕ))
  pub claims : CoursesKeep (StepEnd Claimed)
  pub beats : CoursesKeep (StepEnd Beaten)
  pub outputs : CoursesKeep (StepEnd Written)
  pub finishes : CoursesKeep (StepEnd FinishedJob)
  pub flushes : CoursesKeep (StepEnd ⊤)
  pub sweeps : CoursesKeep (List ℕ)
