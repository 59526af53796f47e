-- What runs leave of a store.
use Rattle.std.specs.Prelude.{◌≡◌, ℕ, List, ◌++◌}
use Rattle.fleet_model.specs.History.{Party, Entry}
use Rattle.fleet_model.specs.Exchanges.{Exchange}
use Rattle.fleet_model.specs.Work.PollStates.{PollState}
use Rattle.step_model.specs.Past.{World}
use Rattle.step_model.specs.Later.{IsLater}
use Rattle.step_model.specs.Rivals.{Caller, Rivals, Strike, after_call}
use Rattle.step_model.specs.Courses.Course.{Course}
use Rattle.step_model.specs.Courses.CourseRuns.{End, Runs}
use Rattle.step_model.specs.Courses.StepEnds.{StepEnd}
use Rattle.step_model.specs.Steps.ClaimSteps.{Claimed}
use Rattle.step_model.specs.Steps.BeatSteps.{Beaten}
use Rattle.step_model.specs.Steps.OutputSteps.{Written}
use Rattle.step_model.specs.Steps.FinishSteps.{FinishedJob}

-- The new world comes after the old one: an object that has the same version is the same, tables were only
-- added, and the history went on.
pub record ComesAfter (old new : World) : Type 0 where
  pub later : IsLater old.store new.store
  pub entries : List Entry
  pub history : new.store.history ≡ old.store.history ++ entries

-- What a run of a course leaves comes after what it found, however the run ends.
abbrev pub RunsComeAfter : Type 0 → Type 0
RunsComeAfter A = (who : Caller) (course : Course A) (old new : World) (end : End A) → Runs who course old new end
    → ComesAfter old new

-- So it is with each kind of step, with single calls, and with calls of others.
pub record WorldsComeAfter : Type 0 where
  pub itself : (world : World) → ComesAfter world world
  pub on : (first second third : World) → ComesAfter first second → ComesAfter second third → ComesAfter first third
  pub call : (line : ℕ) (party : Party) (x : Exchange) (strike : Strike) (world : World)
      → ComesAfter world (after_call line party x strike world)
  pub rivals : (who : Caller) (old new : World) → Rivals who old new → ComesAfter old new
  pub numbers : RunsComeAfter (StepEnd ℕ)
  pub lists : RunsComeAfter (StepEnd (List ℕ))
  pub polls : RunsComeAfter (StepEnd PollState)
  pub claims : RunsComeAfter (StepEnd Claimed)
  pub beats : RunsComeAfter (StepEnd Beaten)
  pub outputs : RunsComeAfter (StepEnd Written)
  pub finishes : RunsComeAfter (StepEnd FinishedJob)
  pub sweeps : RunsComeAfter (List ℕ)
