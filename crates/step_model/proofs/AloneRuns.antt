-- A run of a course alone is one of its runs, if the history has room for its calls. It is the only one if there are no others and no fault waits.
use Rattle.std.proofs.Common.{◌≡◌, refl, sym, subst, inl, inr, Bool, true, false, Option, Some, None, List, [], ◌∷◌}
use Rattle.std.specs.Prelude.{IsTrue, if◌then◌else◌, ◌&&◌, ◌==◌, ⊤}
use Rattle.fleet_model.specs.History.{Event, is_get_or_put}
use Rattle.fleet_model.specs.Exchanges.{Fault, event_of, strikes, waiting_after, struck_by, does_stand, after_answered}
use Rattle.step_model.specs.Past.{World}
use Rattle.step_model.specs.Rivals.{Caller, Rivals, RivalsFrom, RivalCall, after_call}
use Rattle.step_model.specs.Courses.Course.{Course, Ends, Calls}
use Rattle.step_model.specs.Courses.CourseRuns.{End, Gives, MeetsFault, HasRoom, Runs}
use Rattle.step_model.specs.Courses.Alone.{AloneEnd, run_alone}

-- A run alone that has no answer met its fault.
abbrev pub end_of : {A : Type 0} → Option A → End A
end_of None = MeetsFault
end_of (Some answer) = Gives answer

-- The run of a course alone is one of its runs where others may call.
pub record IsRun {A : Type 0} (who : Caller) (course : Course A) (old : World) (run : AloneEnd A) : Type 0 where
  pub new : World
  pub stored : new.store ≡ run.store
  pub runs : Runs who course old new (end_of run.answer)

no_rivals : (who : Caller) (world : World) → Rivals who world world
no_rivals who world = record { calls = []; lead = refl; none = λ alone. refl }

pub may_strike : (event : Event) (fault : Option Fault) → strikes event fault ≡ true → IsTrue (is_get_or_put event)
may_strike event None is = absurd (cc is)
may_strike event (Some fault) is = by (is_get_or_put event) (fault.k == 1) is
  where
    by : (counts first : Bool) → (counts && first) ≡ true → counts ≡ true
    by true first is = refl
    by false first is = absurd (cc is)

-- The history has room for each call of the course as it runs alone.
abbrev pub HasRoomAlone : {A : Type 0} → Caller → Course A → World → Type 0
HasRoomAlone who (Ends answer) old = ⊤
HasRoomAlone who (Calls x next) old = HasRoom old x × HasRoomAlone who (next old.store) (after_call who.line who.party x None old)

-- A course that runs alone, with room for its draws, runs as courses do.
pub run_alone-runs : {A : Type 0} (who : Caller) (course : Course A) (fault : Option Fault) (old : World) → HasRoomAlone who course old → IsRun who course old (run_alone who.line who.party course fault old.store)
run_alone-runs who (Ends answer) fault old room = record { new = old; stored = refl; runs = (refl, refl) }
run_alone-runs {A} who (Calls x next) fault old room =
    by (strikes (event_of x old.store) fault) refl (run_alone-runs who (next old.store) (waiting_after (event_of x old.store) fault) (after_call who.line who.party x None old) room.1)
  where
    struck : AloneEnd A
    struck = record { answer = None; store = struck_by (does_stand fault) who.line who.party x old.store; fault = None }

    further : AloneEnd A
    further = run_alone who.line who.party (next old.store) (waiting_after (event_of x old.store) fault) (after_answered who.line who.party x old.store)

    by : (b : Bool) → strikes (event_of x old.store) fault ≡ b → IsRun who (next old.store) (after_call who.line who.party x None old) further
        → IsRun who (Calls x next) old (if b then struck else further)
    by true is rest = record {
      new = after_call who.line who.party x (Some (does_stand fault)) old;
      stored = refl;
      runs = (old, (no_rivals who old, inl (may_strike (event_of x old.store) fault is, (does_stand fault, refl))));
    }
    by false is rest = record { new = rest.new; stored = rest.stored; runs = (old, (no_rivals who old, inr (room.0, rest.runs))) }

not_moved : (who : Caller) (calls : List RivalCall) (old met : World) → calls ≡ [] → RivalsFrom who calls old met → old ≡ met
not_moved who [] old met none lead = lead
not_moved who (call ∷ calls) old met none lead = absurd (cc none)

-- A run without others and without a fault ends as the run that is alone.
pub run_alone-only : {A : Type 0} (who : Caller) (course : Course A) (old new : World) (answer : A) → who.alone ≡ true → Runs who course old new (Gives answer)
    → run_alone who.line who.party course None old.store ≡ record { answer = Some answer; store = new.store; fault = None }
run_alone-only who (Ends given) old new answer alone runs =
    let same : old ≡ new = runs.0 in
    let gives : given ≡ answer = runs.1 in
    λ i. record { answer = Some (gives i); store = (same i).store; fault = None }
run_alone-only who (Calls x next) old new answer alone (met, (rivals, inl stops)) = absurd stops
run_alone-only who (Calls x next) old new answer alone (met, (rivals, inr (room, rest))) =
    let same : old ≡ met = not_moved who rivals.calls old met (rivals.none alone) rivals.lead in
    run_alone-only who (next old.store) (after_call who.line who.party x None old) new answer alone
    (subst (λ m. Runs who (next m.store) (after_call who.line who.party x None m) new (Gives answer)) (sym same) rest)
