-- A line's run leaves a history that goes on from the old one.
use Rattle.std.proofs.Common.{◌≡◌, sym, ◌∙◌, ap, ℕ, List, [], ◌∷◌, ◌++◌, cond, Bool, true, false, Option, Some, None, arith}
use Rattle.std.specs.Prelude.{max}
use Rattle.std.proofs.lemmas.List.{append-nil, append_assoc}
use Rattle.fleet_model.specs.History.{Party, Entry}
use Rattle.fleet_model.specs.Store.{Store}
use Rattle.fleet_model.specs.Exchanges.{Fault, event_of, after_answered, strikes, waiting_after, does_stand}
use Rattle.step_model.specs.Entries.{last_name}
use Rattle.step_model.specs.Courses.Course.{Course, Ends, Calls}
use Rattle.step_model.specs.Courses.Alone.{run_alone}
use Rattle.course_laws.proofs.Later.{entry_by, call_history}
use Rattle.script_model.specs.Script.{Line}
use Rattle.script_model.specs.States.{Inputs, State}
use Rattle.script_model.specs.LineCourses.{prepared_state}
use Rattle.script_model.specs.LineSteps.{OneCourse}
use Rattle.line_laws.proofs.AloneRuns.{struck_end}
use Rattle.line_laws.proofs.Scripts.{prepared_history}

-- The new history begins with the old one.
pub record GoesOn (old new : List Entry) : Type 0 where
  pub more : List Entry
  pub are : new ≡ old ++ more

-- A course that runs alone leaves a history that goes on from the one that it found.
alone_goes_on : {A : Type 0} (line : ℕ) (party : Party) (course : Course A) (fault : Option Fault) (store : Store) → GoesOn store.history (run_alone line party course fault store).store.history
alone_goes_on line party (Ends answer) fault store = record { more = []; are = sym (append-nil store.history) }
alone_goes_on {A} line party (Calls x next) fault store = by (strikes (event_of x store) fault) (alone_goes_on line party (next store) (waiting_after (event_of x store) fault) (after_answered line party x store))
  where
    answered : Store
    answered = (run_alone line party (next store) (waiting_after (event_of x store) fault) (after_answered line party x store)).store

    by : (b : Bool) → GoesOn (after_answered line party x store).history answered.history
        → GoesOn store.history (cond b (struck_end {A = A} line party x fault store) (run_alone line party (next store) (waiting_after (event_of x store) fault) (after_answered line party x store))).store.history
    by true rest = record { more = entry_by line party x (Some (does_stand fault)) store ∷ []; are = call_history line party x (Some (does_stand fault)) store }
    by false rest = record {
      more = entry_by line party x None store ∷ rest.more;
      are = rest.are ∙ (ap (λ (h : List Entry). h ++ rest.more) (call_history line party x None store) ∙ append_assoc store.history (entry_by line party x None store ∷ []) rest.more);
    }

-- One course of a line leaves a history that begins with the old one.
pub line_goes_on : (inputs : Inputs) (number : ℕ) (old : State) (line : Line) (answer : List ℕ) (new : State) → OneCourse inputs number old line answer new → GoesOn old.store.history new.store.history
line_goes_on inputs number old line answer new one =
    let s = prepared_state line old in
    let g = alone_goes_on number one.course.party one.course.course s.fault s.store in
    let left = ap (λ (p : List ℕ × State). p.1.store.history) one.ends in
    record { more = g.more; are = sym left ∙ (g.are ∙ ap (λ (t : Store). t.history ++ g.more) (prepared_history line old)) }

-- The greatest name of a longer history.
pub last_name_append : (front back : List Entry) → last_name (front ++ back) ≡ max (last_name front) (last_name back)
last_name_append [] back = omega arith
last_name_append (entry ∷ front) back = let rest = last_name_append front back in omega (arith, rest)
