-- The contract of a step.
use Rattle.std.specs.Prelude.{◌≡◌, ℕ, ◌+◌, ◌++◌, ◌==◌, if◌then◌else◌, ◌<◌, ◌≤◌, Bool, true, false, Option, Some, None, Result, Ok, Err}
use Rattle.fleet_model.specs.Exchanges.{Exchange, Fault, records_version}
use Rattle.fleet_model.specs.Store.{Store}
use Rattle.step_model.specs.Past.{World}
use Rattle.step_model.specs.Courses.Course.{Course, Calls}
use Rattle.step_model.specs.Courses.CourseRuns.{End, Gives, MeetsFault, LacksMemory, IsLawfulCourse}
use Rattle.step_model.specs.Courses.StepEnds.{StepEnd, GivesUp, Fenced, NotOwner, NoRecords, Invalid, Declined, OperatorRefuses}
use Rattle.step_model.specs.LawfulRecords.{OfSome}
use Rattle.fleet_rows.specs.declared.errors.MergeOperatorError.TheVariants.{Callback}
use Rattle.fleet_rows.specs.declared.errors.SlateDBError.{SlateDBError}
use Rattle.fleet_rows.specs.declared.errors.SlateDBError.TheVariants as error
use Rattle.step_model.specs.Views.{StoreView, SameCaller}
use Rattle.step_model.specs.Courses.Ran.{Ran}
use Rattle.step_model.specs.Later.{IsLater}

-- ---- how a result tells the end of a run

-- The end of a run of which the result of a step says. `ends` gives the model's end for the step's own answer.
-- The errors that are no end of a step have none.
abbrev pub end_of : {A B : Type 0} → (A → StepEnd B) → Result A SlateDBError → Option (End (StepEnd B))
end_of ends (Ok answer) = Some (Gives (ends answer))
end_of ends (Err error.StoreFault) = Some MeetsFault
end_of ends (Err error.Memory) = Some LacksMemory
end_of ends (Err (error.Conflict seen)) = Some (Gives (GivesUp seen))
end_of ends (Err (error.Fenced stored)) = Some (Gives (Fenced stored))
end_of ends (Err error.NotOwner) = Some (Gives NotOwner)
end_of ends (Err error.InvalidDBState) = Some (Gives NoRecords)
end_of ends (Err error.InvalidCompaction) = Some (Gives Invalid)
end_of ends (Err (error.Generate message)) = Some (Gives (Declined message))
end_of ends (Err (error.MergeOperator (Callback message))) = Some (Gives (OperatorRefuses message))
end_of ends (Err _) = None

-- True if the party is stopped by this result: a fault struck a call, or the party is fenced.
abbrev pub stops : {A : Type 0} → Result A SlateDBError → Bool
stops (Err error.StoreFault) = true
stops (Err (error.Fenced stored)) = true
stops _ = false

-- The version that a refused put met, if the result is that of one.
abbrev pub refused_at : {A : Type 0} → Result A SlateDBError → Option ℕ
refused_at (Err (error.Conflict seen)) = Some seen
refused_at _ = None

-- ---- runs of a step

-- How many faults struck calls in a run that ended so.
abbrev pub FaultsRise : {A : Type 0} → End A → (old new : StoreView) → Type 0
FaultsRise MeetsFault old new = (old.faults < new.faults) × (old.who.alone ≡ true → new.faults ≡ old.faults + 1)
FaultsRise end old new = (old.faults ≤ new.faults) × (old.who.alone ≡ true → new.faults ≡ old.faults)

-- A run of the course leads from the old to the new and ends so.
pub record RunsTo {A : Type 0} (course : Course A) (old new : StoreView) (end : End A) : Type 0 where
  pub same : SameCaller old new
  pub faults : FaultsRise end old new
  pub ran : Ran old.who course old.world new.world old.waits new.waits end

-- A step ran its course, and its result tells how the run ended.
pub record StepRan {A B : Type 0} (ends : A → StepEnd B) (course : Course (StepEnd B)) (old new : StoreView)
    (result : Result A SlateDBError) : Type 0 where
  pub to_end : OfSome (RunsTo course old new) (end_of ends result)

-- ---- parts of a run

-- A party that is to run the course at the old has to run the rest at the new: the calls that it made lead
-- there, and are lawful if those of the course are.
pub record Leads {A : Type 0} (course : Course A) (old : StoreView) (rest : Course A) (new : StoreView) : Type 0 where
  pub same : SameCaller old new
  pub rise : old.faults ≤ new.faults
  pub no_fault : old.who.alone ≡ true → new.faults ≡ old.faults
  pub later : IsLater old.world.store new.world.store
  pub on : (last : World) (left : Option Fault) (end : End A) → Ran old.who rest new.world last new.waits left end
      → Ran old.who course old.world last old.waits left end
  pub lawful : IsLawfulCourse old.who old.world course → IsLawfulCourse old.who new.world rest

-- One try of a step: if its put was refused, it leads to another try. Otherwise the step ends with it.
pub record TryRan {A B : Type 0} (ends : A → StepEnd B) (course : Course (StepEnd B))
    (again : ℕ → Course (StepEnd B)) (old new : StoreView) (result : Result A SlateDBError) : Type 0 where
  pub ended : refused_at result ≡ None → StepRan ends course old new result
  pub refused : (seen : ℕ) → refused_at result ≡ Some seen → Leads course old (again seen) new

-- ---- puts of the records

-- How a course goes on after a put of the records: by whether its version is stored.
abbrev pub put_then : {A : Type 0} → (version : ℕ) (next : Course A) (again : ℕ → Course A) (met : Store) → Course A
put_then version next again met =
    if version == records_version met.records then next else again (records_version met.records)

-- A course that makes this put of the records for a version. It goes on with `next`, or with `again` if the put is
-- refused.
abbrev pub puts_and : {A : Type 0} → (put : Exchange) (version : ℕ) (next : Course A) (again : ℕ → Course A) → Course A
puts_and put version next again = Calls put (put_then version next again)

-- The answer of a step that ends with a put.
abbrev pub put_answer : {A : Type 0} → Result ℕ SlateDBError → A → Result A SlateDBError
put_answer (Ok version) answer = Ok answer
put_answer (Err e) answer = Err e
