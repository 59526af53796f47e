-- The laws on runs of steps under a lawful operator: calls of others and lawful courses keep the
-- invariant.
use Rattle.std.specs.Prelude.{ℕ, List, ⊤}
use Rattle.row_model.specs.Fold.{IsLawful}
use Rattle.fleet_model.specs.Work.PollStates.{PollState}
use Rattle.step_model.specs.Past.{World}
use Rattle.step_model.specs.Rivals.{Caller, Rivals}
use Rattle.step_model.specs.Kept.Keeps.{Keeps}
use Rattle.step_model.specs.Courses.Course.{Course}
use Rattle.step_model.specs.Courses.StepEnds.{StepEnd}
use Rattle.step_model.specs.Steps.ClaimSteps.{Claimed}
use Rattle.step_model.specs.Steps.BeatSteps.{Beaten}
use Rattle.step_model.specs.Steps.OutputSteps.{Written}
use Rattle.step_model.specs.Steps.FinishSteps.{FinishedJob}
use Rattle.step_laws.specs.Runs.{RunKeeps}

-- The runs of all lawful courses with such an answer keep the invariant, whatever calls of others
-- come in between and however they end.
abbrev pub LawfulCoursesKeep : Type 0 → Type 0
LawfulCoursesKeep A = (who : Caller) (course : Course A) → IsLawful who.merge → RunKeeps who course

-- Under a lawful operator, calls of others keep the invariant, and so do the runs of all steps that
-- are lawful courses.
pub record CoursesKeep : Type 0 where
  pub rivals : (who : Caller) (old new : World) → IsLawful who.merge → Keeps who.merge old → Rivals who old new
      → Keeps who.merge new
  pub starts : LawfulCoursesKeep (StepEnd ℕ)
  pub polls : LawfulCoursesKeep (StepEnd PollState)
  pub submits : LawfulCoursesKeep (StepEnd (List ℕ))
  pub claims : LawfulCoursesKeep (StepEnd Claimed)
  pub beats : LawfulCoursesKeep (StepEnd Beaten)
  pub outputs : LawfulCoursesKeep (StepEnd Written)
  pub finishes : LawfulCoursesKeep (StepEnd FinishedJob)
  pub flushes : LawfulCoursesKeep (StepEnd ⊤)
  pub sweeps : LawfulCoursesKeep (List ℕ)
