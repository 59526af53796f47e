-- The runs of a course over a store that others may call in between, and when a course is lawful.
use Rattle.std.specs.Prelude.{◌≡◌, ◌⊎◌, Bool, IsTrue, Some, None, ⊤}
use Rattle.fleet_model.specs.History.{is_get_or_put}
use Rattle.fleet_model.specs.Exchanges.{Exchange, DrawsJob, DrawsTable, event_of}
use Rattle.step_model.specs.Past.{World}
use Rattle.step_model.specs.LawfulTables.{DrawFits}
use Rattle.step_model.specs.Lawful.{Lawful}
use Rattle.step_model.specs.Rivals.{Caller, Rivals, after_call}
use Rattle.step_model.specs.Courses.Course.{Course, Ends, Calls}

-- The end of a run: it gives the answer of the course, or a fault strikes one of its calls, or
-- memory runs out before a call or at the end.
pub data End (A : Type 0) : Type 0 where
  Gives : (answer : A) → End A
  MeetsFault : End A
  LacksMemory : End A

-- The end of a run that made all calls of its course: it gives the answer, unless memory runs out.
abbrev pub EndsAs : {A : Type 0} → A → End A → Type 0
EndsAs answer (Gives given) = answer ≡ given
EndsAs answer MeetsFault = ⊥
EndsAs answer LacksMemory = ⊤

-- The history has room for the call, if the call is a draw. Any number of calls of others may come
-- before a draw, so a party alone cannot see to this.
abbrev pub HasRoom : World → Exchange → Type 0
HasRoom world (DrawsJob moment) = DrawFits world.store
HasRoom world (DrawsTable moment) = DrawFits world.store
HasRoom world _ = ⊤

-- The run stops at this call: a fault strikes the call, or memory runs out and it is not made.
-- `met` is the world before the call, and `new` what the run leaves.
abbrev pub StopsAt : {A : Type 0} → Caller → Exchange → (met new : World) → End A → Type 0
StopsAt who x met new (Gives answer) = ⊥
StopsAt who x met new MeetsFault =
    IsTrue (is_get_or_put (event_of x met.store))
    × ((stands : Bool) × (new ≡ after_call who.line who.party x (Some stands) met))
StopsAt who x met new LacksMemory = met ≡ new

-- A run of the course leads from the old to the new and ends so. Before each call there may be calls
-- of others. The run goes on after a call that the history has room for. A store without room for a
-- draw answers that memory runs out.
abbrev pub Runs : {A : Type 0} → Caller → Course A → (old new : World) → End A → Type 0
Runs who (Ends answer) old new end = (old ≡ new) × EndsAs answer end
Runs who (Calls x next) old new end =
    (met : World) × (Rivals who old met
    × (StopsAt who x met new end
    ⊎ (HasRoom met x × Runs who (next met.store) (after_call who.line who.party x None met) new end)))

-- Each call of the course that the history has room for is lawful, whatever calls of others come
-- before it.
abbrev pub IsLawfulCourse : {A : Type 0} → Caller → World → Course A → Type 0
IsLawfulCourse who old (Ends answer) = ⊤
IsLawfulCourse who old (Calls x next) =
    (met : World) → Rivals who old met → HasRoom met x
    → Lawful who.merge who.party met x
    × IsLawfulCourse who (after_call who.line who.party x None met) (next met.store)
