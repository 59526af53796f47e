-- A fault cuts the calls of a course at the call that it strikes.
use Rattle.std.proofs.Common.{◌≡◌, refl, sym, ◌∙◌, ap, ℕ, List, [], ◌∷◌, ◌++◌, cond, Bool, true, false, Option, Some, None, append-nil, append_assoc}
use Rattle.std.specs.Prelude.{map}
use Rattle.fleet_model.specs.History.{Party, Event, Entry}
use Rattle.fleet_model.specs.Store.{Store}
use Rattle.fleet_model.specs.Exchanges.{Exchange, Fault, event_of, answer_of, after_answered, strikes, waiting_after, struck_by, does_stand}
use Rattle.step_model.specs.Courses.Course.{Course, Ends, Calls}
use Rattle.step_model.specs.Courses.Alone.{AloneEnd, run_alone}
use Rattle.course_laws.proofs.Later.{call_history}
use Rattle.step_model.proofs.AloneRuns.{may_strike}
use Rattle.line_laws.specs.Lines.PollRuns.{Answered, entry_of}
use Rattle.line_laws.specs.Faults.{calls_made, answer_made, struck_answer, MadeOf, AllMade, CutAt, answer_if, RunsCut, FaultsCut}

-- The history after a struck call.
struck_history : (stands : Bool) (line : ℕ) (party : Party) (x : Exchange) (store : Store) → (struck_by stands line party x store).history ≡ store.history ++ entry_of line party (event_of x store, struck_answer stands (answer_of x store)) ∷ []
struck_history true line party x store = call_history line party x (Some true) store
struck_history false line party x store = call_history line party x (Some false) store

-- A fault that comes nearer lets puts stand as before.
nearer_stands : (event : Event) (fault : Option Fault) → does_stand (waiting_after event fault) ≡ does_stand fault
nearer_stands event None = refl
nearer_stands event (Some fault) = refl

-- What was made after one more call.
record More {A : Type 0} (line : ℕ) (party : Party) (x : Exchange) (next : Store → Course A) (fault : Option Fault) (store : Store) (run : AloneEnd A) : Type 0 where
  made : List Answered
  of : MadeOf (does_stand fault) (calls_made line party (Calls x next) store) made
  history : run.store.history ≡ store.history ++ map (entry_of line party) made
  answer : run.answer ≡ answer_if of (answer_made line party (next store) (after_answered line party x store))

-- If a run is cut where its fault strikes, so is the run with one more answered call before it.
one_more : {A : Type 0} (line : ℕ) (party : Party) (x : Exchange) (next : Store → Course A) (fault : Option Fault) (store : Store) (run : AloneEnd A) → RunsCut line party (next store) (waiting_after (event_of x store) fault) (after_answered line party x store) run → More line party x next fault store run
one_more {A} line party x next fault store run r = by r.of r.answer
  where
    first : Answered
    first = (event_of x store, answer_of x store)

    stays : does_stand (waiting_after (event_of x store) fault) ≡ does_stand fault
    stays = nearer_stands (event_of x store) fault

    grown : run.store.history ≡ store.history ++ map (entry_of line party) (first ∷ r.made)
    grown = r.history ∙ ap (λ (h : List Entry). h ++ map (entry_of line party) r.made) (call_history line party x None store) ∙ append_assoc store.history (entry_of line party first ∷ []) (map (entry_of line party) r.made)

    by : (of : MadeOf (does_stand (waiting_after (event_of x store) fault)) (calls_made line party (next store) (after_answered line party x store)) r.made)
        → run.answer ≡ answer_if of (answer_made line party (next store) (after_answered line party x store)) → More line party x next fault store run
    by (AllMade same) answer = record { made = first ∷ r.made; of = AllMade (ap (λ (cs : List Answered). first ∷ cs) same); history = grown; answer = answer }
    by (CutAt before event given after is whole cut) answer = record {
      made = first ∷ r.made;
      of = CutAt (first ∷ before) event given after is (ap (λ (cs : List Answered). first ∷ cs) whole) (ap (λ (cs : List Answered). first ∷ cs) cut ∙ ap (λ (b : Bool). first ∷ (before ++ (event, struck_answer b given) ∷ [])) stays);
      history = grown;
      answer = answer;
    }

-- A course that runs alone makes its calls up to one that a fault strikes, and gives its answer if none is struck.
pub runs_cut : {A : Type 0} (line : ℕ) (party : Party) (course : Course A) (fault : Option Fault) (store : Store) → RunsCut line party course fault store (run_alone line party course fault store)
runs_cut line party (Ends answer) fault store = record { made = []; of = AllMade refl; history = sym (append-nil store.history); answer = refl }
runs_cut {A} line party (Calls x next) fault store = by (strikes (event_of x store) fault) refl (runs_cut line party (next store) (waiting_after (event_of x store) fault) (after_answered line party x store))
  where
    by : (b : Bool) → strikes (event_of x store) fault ≡ b
        → RunsCut line party (next store) (waiting_after (event_of x store) fault) (after_answered line party x store) (run_alone line party (next store) (waiting_after (event_of x store) fault) (after_answered line party x store))
        → RunsCut line party (Calls x next) fault store (cond b (record { answer = None; store = struck_by (does_stand fault) line party x store; fault = None }) (run_alone line party (next store) (waiting_after (event_of x store) fault) (after_answered line party x store)))
    by true e rest = record {
      made = (event_of x store, struck_answer (does_stand fault) (answer_of x store)) ∷ [];
      of = CutAt [] (event_of x store) (answer_of x store) (calls_made line party (next store) (after_answered line party x store)) (may_strike (event_of x store) fault e) refl refl;
      history = struck_history (does_stand fault) line party x store;
      answer = refl;
    }
    by false e rest = let m = one_more line party x next fault store _ rest in record { made = m.made; of = m.of; history = m.history; answer = m.answer }

pub faults_cut : FaultsCut
faults_cut line party course fault store = runs_cut line party course fault store
