-- The runs of a course, with the fault that waits before and after. They say all that `Runs` says and, if nobody
-- else calls the store, which call the fault strikes.
use Rattle.std.specs.Prelude.{◌≡◌, ◌⊎◌, Bool, true, false, IsTrue, Option, Some, None}
use Rattle.fleet_model.specs.History.{Event, is_get_or_put}
use Rattle.fleet_model.specs.Exchanges.{Exchange, Fault, event_of, strikes, waiting_after, does_stand}
use Rattle.step_model.specs.Past.{World}
use Rattle.step_model.specs.Rivals.{Caller, Rivals, after_call}
use Rattle.step_model.specs.Courses.Course.{Course, Ends, Calls}
use Rattle.step_model.specs.Courses.CourseRuns.{End, Gives, MeetsFault, LacksMemory, EndsAs, HasRoom}

-- The fault that waits does not strike this event, and comes nearer by it.
pub record Spares (event : Event) (waits left : Option Fault) : Type 0 where
  pub spared : strikes event waits ≡ false
  pub nearer : left ≡ waiting_after event waits

-- The fault that waits strikes this event, and is used up by it.
pub record Strikes (event : Event) (waits left : Option Fault) (stands : Bool) : Type 0 where
  pub struck : strikes event waits ≡ true
  pub as_said : stands ≡ does_stand waits
  pub used : left ≡ None

-- The run stops at this call, as `StopsAt` says. A caller that is alone knows the fault that waits.
abbrev pub StopsHere : {A : Type 0} → Caller → Exchange → (met new : World) → (waits left : Option Fault) → End A
    → Type 0
StopsHere who x met new waits left (Gives answer) = ⊥
StopsHere who x met new waits left MeetsFault =
    IsTrue (is_get_or_put (event_of x met.store))
    × ((stands : Bool) × ((new ≡ after_call who.line who.party x (Some stands) met)
    × (who.alone ≡ true → Strikes (event_of x met.store) waits left stands)))
StopsHere who x met new waits left LacksMemory = (met ≡ new) × (who.alone ≡ true → left ≡ waits)

-- A run of the course leads from the old to the new and ends so. `waits` and `left` are the faults that wait before
-- and after it.
abbrev pub Ran : {A : Type 0} → Caller → Course A → (old new : World) → (waits left : Option Fault) → End A → Type 0
Ran who (Ends answer) old new waits left end = (old ≡ new) × ((who.alone ≡ true → left ≡ waits) × EndsAs answer end)
Ran who (Calls x next) old new waits left end =
    (met : World) × (Rivals who old met × (StopsHere who x met new waits left end
    ⊎ (HasRoom met x × ((mid : Option Fault) × ((who.alone ≡ true → Spares (event_of x met.store) waits mid)
    × Ran who (next met.store) (after_call who.line who.party x None met) new mid left end)))))
