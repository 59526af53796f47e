-- How a party runs a course while no other party calls the store.
use Rattle.std.specs.Prelude.{ℕ, if◌then◌else◌, Option, Some, None}
use Rattle.fleet_model.specs.History.{Party}
use Rattle.fleet_model.specs.Store.{Store}
use Rattle.fleet_model.specs.Exchanges.{Fault, event_of, after_answered, strikes, waiting_after, struck_by, does_stand}
use Rattle.step_model.specs.Courses.Course.{Course, Ends, Calls}

-- The end of a course that ran alone. The answer is None where a fault struck a call. The fault is
-- the one that is still waiting, if any.
pub record AloneEnd (A : Type 0) : Type 0 where
  pub answer : Option A
  pub store : Store
  pub fault : Option Fault

-- The party makes the calls of the course in order. It stops at the call that the fault strikes.
abbrev pub run_alone : {A : Type 0} → (line : ℕ) (party : Party) (course : Course A) (fault : Option Fault)
    (store : Store) → AloneEnd A
run_alone line party (Ends answer) fault store = record { answer = Some answer; store = store; fault = fault }
run_alone line party (Calls x next) fault store =
    if strikes (event_of x store) fault
    then record { answer = None; store = struck_by (does_stand fault) line party x store; fault = None }
    else run_alone line party (next store) (waiting_after (event_of x store) fault) (after_answered line party x store)
