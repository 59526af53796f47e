-- The law on faults: a fault cuts the calls of a course at the call that it strikes.
use Rattle.std.specs.Prelude.{◌≡◌, ℕ, Bool, true, false, IsTrue, List, [], ◌∷◌, ◌++◌, map, Option, Some, None}
use Rattle.fleet_model.specs.History.{Party, Event, Answer, Lost, is_get_or_put}
use Rattle.fleet_model.specs.Store.{Store}
use Rattle.fleet_model.specs.Exchanges.{Fault, event_of, answer_of, after_answered, stands_or_lost, does_stand}
use Rattle.step_model.specs.Courses.Course.{Course, Ends, Calls}
use Rattle.step_model.specs.Courses.Alone.{AloneEnd, run_alone}
use Rattle.script_model.specs.LineRuns.{LineEnd}
use Rattle.line_laws.specs.Lines.PollRuns.{Answered, entry_of}

-- ---- a course that nobody disturbs and no fault strikes

-- Its calls, in order, each with its answer.
abbrev pub calls_made : {A : Type 0} → (line : ℕ) (party : Party) (course : Course A) (store : Store) → List Answered
calls_made line party (Ends answer) store = []
calls_made line party (Calls x next) store =
    (event_of x store, answer_of x store) ∷ calls_made line party (next store) (after_answered line party x store)

-- What it answers.
abbrev pub answer_made : {A : Type 0} → (line : ℕ) (party : Party) (course : Course A) (store : Store) → A
answer_made line party (Ends answer) store = answer
answer_made line party (Calls x next) store = answer_made line party (next store) (after_answered line party x store)

-- ---- a fault

-- The answer to a struck call, given its answer without a fault.
abbrev pub struck_answer : Bool → Answer → Answer
struck_answer true answer = stands_or_lost answer
struck_answer false answer = Lost

-- What was made of these calls: all of them, or the first ones up to a get or a put that a fault struck.
pub data MadeOf (stands : Bool) (calls made : List Answered) : Type 0 where
  AllMade : made ≡ calls → MadeOf stands calls made
  CutAt : (before : List Answered) (event : Event) (answer : Answer) (after : List Answered)
      → IsTrue (is_get_or_put event) → calls ≡ before ++ (event, answer) ∷ after
      → made ≡ before ++ (event, struck_answer stands answer) ∷ [] → MadeOf stands calls made

-- The answer of a course, if no fault struck it.
abbrev pub answer_if : {A : Type 0} {stands : Bool} {calls made : List Answered} → MadeOf stands calls made → A
    → Option A
answer_if (AllMade same) answer = Some answer
answer_if (CutAt before event answer after counts whole cut) given = None

-- The run of a course alone, with a fault that may strike it. Its entries are those of the calls that were
-- made. It answers as the course does without a fault, unless a fault struck it.
pub record RunsCut {A : Type 0} (line : ℕ) (party : Party) (course : Course A) (fault : Option Fault) (store : Store)
    (run : AloneEnd A) : Type 0 where
  pub made : List Answered
  pub of : MadeOf (does_stand fault) (calls_made line party course store) made
  pub history : run.store.history ≡ store.history ++ map (entry_of line party) made
  pub answer : run.answer ≡ answer_if of (answer_made line party course store)

-- So runs each course of a line.
abbrev pub FaultsCut : Type 0
FaultsCut = (line : ℕ) (party : Party) (course : Course LineEnd) (fault : Option Fault) (store : Store)
    → RunsCut line party course fault store (run_alone line party course fault store)
