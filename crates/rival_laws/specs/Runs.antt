-- The laws on whole runs of other parties: to a party, they are calls of others.
use Rattle.std.specs.Prelude.{◌≡◌, ◌≢◌, ◌⊎◌, ℕ, true, false, List, Option, None, ⊤}
use Rattle.std.specs.List.{AllByRecursion}
use Rattle.fleet_model.specs.History.{Party, Coordinator, Worker, Sweeper}
use Rattle.fleet_model.specs.Work.Parties.{LiveWorker, LiveCoordinator}
use Rattle.fleet_model.specs.Work.PollStates.{PollState}
use Rattle.step_model.specs.Past.{World}
use Rattle.step_model.specs.Steps.Merging.{Local}
use Rattle.step_model.specs.Rivals.{Caller, Rivals, after_call}
use Rattle.step_model.specs.Kept.Keeps.{Keeps}
use Rattle.step_model.specs.Fits.{WorkerHolds, CoordinatorHolds}
use Rattle.step_model.specs.Courses.Course.{Course, Ends, Calls}
use Rattle.step_model.specs.Courses.CourseRuns.{End, EndsAs, HasRoom, StopsAt, Runs, IsLawfulCourse}
use Rattle.step_model.specs.Courses.StepEnds.{StepEnd}
use Rattle.step_model.specs.Steps.ClaimSteps.{Claimed}
use Rattle.step_model.specs.Steps.BeatSteps.{Beaten}
use Rattle.step_model.specs.Steps.OutputSteps.{Written}
use Rattle.step_model.specs.Steps.FinishSteps.{FinishedJob}
use Rattle.step_laws.specs.Runs.{CallsKeep}
use Rattle.rival_laws.specs.Free.{IsFree}

-- None of these calls is one of this party.
abbrev pub NoneOf : {who : Caller} {old new : World} → Party → Rivals who old new → Type 0
NoneOf party rivals = AllByRecursion (λ call. call.party ≢ party) rivals.calls

-- A run of the course, as `Runs` has it, in which no call that comes in between is one of this party.
abbrev pub RunsBeside : {A : Type 0} → (party : Party) (who : Caller) (course : Course A) → (old new : World)
    → (end : End A) → Type 0
RunsBeside party who (Ends answer) old new end = (old ≡ new) × EndsAs answer end
RunsBeside party who (Calls x next) old new end =
    (met : World) × ((rivals : Rivals who old met) × (NoneOf party rivals × (StopsAt who x met new end
    ⊎ (HasRoom met x × RunsBeside party who (next met.store) (after_call who.line who.party x None met) new end))))

-- A run of a lawful course that this party does not disturb. Only a sweeper deletes tables.
pub record RunBeside {A : Type 0} (party : Party) (who : Caller) (course : Course A) (old new : World) (end : End A)
    : Type 0 where
  pub other : who.party ≢ party
  pub no_sweeper : who.party ≢ Sweeper
  pub lawful : IsLawfulCourse who old course
  pub run : RunsBeside party who course old new end

-- To a party that does not disturb it, the run of another party is calls of others. So it keeps what the party
-- holds, if every lawful call keeps the invariant. Such a run is a run, and one that is alone is such a run.
pub record OthersRun (A : Type 0) : Type 0 where
  pub rivals : (other who : Caller) (course : Course A) (old new : World) (end : End A) → other.alone ≡ false
      → other.merge ≡ who.merge
      → RunBeside other.party who course old new end → Rivals other old new
  pub workers : (who : Caller) (course : Course A) (old new : World) (end : End A) (w : LiveWorker)
      → CallsKeep who.merge
      → Keeps who.merge old → RunBeside (Worker w.number) who course old new end → WorkerHolds who.merge old w
      → WorkerHolds who.merge new w
  pub coordinators : (who : Caller) (course : Course A) (old new : World) (end : End A) (c : LiveCoordinator)
      (local : Option Local)
      → CallsKeep who.merge
      → Keeps who.merge old → RunBeside (Coordinator c.number) who course old new end → CoordinatorHolds old c local
      → CoordinatorHolds new c local
  pub free_tables : (who : Caller) (course : Course A) (old new : World) (end : End A) (worker table : ℕ)
      → CallsKeep who.merge
      → Keeps who.merge old → RunBeside (Worker worker) who course old new end → IsFree (Worker worker) old table
      → IsFree (Worker worker) new table
  pub are_runs : (party : Party) (who : Caller) (course : Course A) (old new : World) (end : End A)
      → RunsBeside party who course old new end → Runs who course old new end
  pub alone : (party : Party) (who : Caller) (course : Course A) (old new : World) (end : End A) → who.alone ≡ true
      → Runs who course old new end → RunsBeside party who course old new end

-- So it is with each kind of step.
pub record OthersRunSteps : Type 0 where
  pub numbers : OthersRun (StepEnd ℕ)
  pub lists : OthersRun (StepEnd (List ℕ))
  pub polls : OthersRun (StepEnd PollState)
  pub claims : OthersRun (StepEnd Claimed)
  pub beats : OthersRun (StepEnd Beaten)
  pub outputs : OthersRun (StepEnd Written)
  pub finishes : OthersRun (StepEnd FinishedJob)
  pub flushes : OthersRun (StepEnd ⊤)
