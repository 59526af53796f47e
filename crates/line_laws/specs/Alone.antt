-- The law on a party that nobody else disturbs: its run alone is a run of its course.
use Rattle.std.specs.Prelude.{◌≡◌, ◌<◌, length, Option, Some, None}
use Rattle.fleet_model.specs.Jobs.{drawn_base}
use Rattle.fleet_model.specs.Store.{Store}
use Rattle.fleet_model.specs.Exchanges.{Fault}
use Rattle.step_model.specs.Past.{World}
use Rattle.step_model.specs.Rivals.{Caller}
use Rattle.step_model.specs.Courses.Course.{Course}
use Rattle.step_model.specs.Courses.CourseRuns.{End, Gives, MeetsFault, Runs}
use Rattle.step_model.specs.Courses.Alone.{AloneEnd, run_alone}
use Rattle.script_model.specs.LineRuns.{LineEnd}

-- How a run that is alone ends: it gives its answer, or a fault struck one of its calls.
abbrev pub end_of : {A : Type 0} → Option A → End A
end_of None = MeetsFault
end_of (Some answer) = Gives answer

-- The history is shorter than the numbers of drawn tables. Histories only grow, so there was room for
-- each draw before.
abbrev pub HadRoom : Store → Type 0
HadRoom store = length store.history < drawn_base

-- The run that is alone leads from the world before it to this store, as a run of the course.
pub record IsRun {A : Type 0} (who : Caller) (course : Course A) (world : World) (alone : AloneEnd A) : Type 0 where
  pub new : World
  pub left : new.store ≡ alone.store
  pub run : Runs who course world new (end_of alone.answer)

-- A course that runs alone over a store runs as courses do, if the history had room for its draws.
abbrev pub AloneRuns : Type 0
AloneRuns = (who : Caller) (course : Course LineEnd) (world : World) (fault : Option Fault)
    → HadRoom (run_alone who.line who.party course fault world.store).store
    → IsRun who course world (run_alone who.line who.party course fault world.store)
