-- A course that runs alone over a store runs as courses do.
use Rattle.std.proofs.Common.{◌≡◌, refl, ◌∙◌, ap, ℕ, ◌+◌, ◌≤◌, ◌<◌, [], ◌∷◌, cond, Bool, true, false, inl, inr, Option, Some, None, length, length-append, arith}
use Rattle.std.specs.Prelude.{IsTrue, ◌&&◌, ◌==◌}
use Rattle.fleet_model.specs.Jobs.{drawn_base}
use Rattle.fleet_model.specs.History.{Party, Event, is_get_or_put}
use Rattle.fleet_model.specs.Store.{Store}
use Rattle.fleet_model.specs.Exchanges.{Exchange, Plain, DrawsJob, DrawsTable, PutsTable, PutsManifest, PutsRecords, ListsTables, DeletesTable, Fault, event_of, after_answered, strikes, waiting_after, struck_by, does_stand}
use Rattle.step_model.specs.Past.{World}
use Rattle.step_model.specs.Rivals.{Caller, Strike, store_after_call, after_call}
use Rattle.step_model.specs.Courses.Course.{Course, Ends, Calls}
use Rattle.step_model.specs.Courses.CourseRuns.{HasRoom}
use Rattle.step_model.specs.Courses.Alone.{AloneEnd, run_alone}
use Rattle.course_laws.proofs.Later.{entry_by, call_history}
use Rattle.line_laws.specs.Alone.{HadRoom, IsRun, AloneRuns}
use Rattle.rival_laws.proofs.Runs.{rivals_none}

-- ---- histories grow

pub call_grows : (line : ℕ) (party : Party) (x : Exchange) (strike : Strike) (store : Store) → length (store_after_call line party x strike store).history ≡ length store.history + 1
call_grows line party x strike store = ap length (call_history line party x strike store) ∙ length-append store.history (entry_by line party x strike store ∷ [])

-- The end of a run whose next call is struck, and of one whose next call is answered.
abbrev pub struck_end : {A : Type 0} → ℕ → Party → Exchange → Option Fault → Store → AloneEnd A
struck_end line party x fault store = record { answer = None; store = struck_by (does_stand fault) line party x store; fault = None }

abbrev answered_end : {A : Type 0} → ℕ → Party → Exchange → (Store → Course A) → Option Fault → Store → AloneEnd A
answered_end line party x next fault store = run_alone line party (next store) (waiting_after (event_of x store) fault) (after_answered line party x store)

pub alone_grows : {A : Type 0} (line : ℕ) (party : Party) (course : Course A) (fault : Option Fault) (store : Store) → length store.history ≤ length (run_alone line party course fault store).store.history
alone_grows line party (Ends answer) fault store = omega arith
alone_grows {A} line party (Calls x next) fault store = by (strikes (event_of x store) fault) (alone_grows line party (next store) (waiting_after (event_of x store) fault) (after_answered line party x store))
  where
    by : (b : Bool) → length (after_answered line party x store).history ≤ length (answered_end line party x next fault store).store.history
        → length store.history ≤ length (cond b (struck_end {A = A} line party x fault store) (answered_end line party x next fault store)).store.history
    by true rest = let one = call_grows line party x (Some (does_stand fault)) store in omega (arith, one)
    by false rest = let one = call_grows line party x None store in omega (arith, one, rest)

-- ---- runs

struck_counts : (event : Event) (fault : Option Fault) → strikes event fault ≡ true → IsTrue (is_get_or_put event)
struck_counts event None e = absurd (cc e)
struck_counts event (Some fault) e = by (is_get_or_put event) e
  where
    by : (b : Bool) → (b && (fault.k == 1)) ≡ true → IsTrue b
    by true e = refl
    by false e = absurd (cc e)

has_room : (x : Exchange) (world : World) → length world.store.history + 1 < drawn_base → HasRoom world x
has_room (Plain event) world room = tt
has_room (DrawsJob moment) world room = room
has_room (DrawsTable moment) world room = room
has_room (PutsTable table rows) world room = tt
has_room (PutsManifest version change value) world room = tt
has_room (PutsRecords version change epoch jobs) world room = tt
has_room ListsTables world room = tt
has_room (DeletesTable table) world room = tt

-- A course that runs alone over a store runs as courses do, if the history had room for its draws.
pub alone_runs : {A : Type 0} (who : Caller) (course : Course A) (world : World) (fault : Option Fault) → HadRoom (run_alone who.line who.party course fault world.store).store
    → IsRun who course world (run_alone who.line who.party course fault world.store)
alone_runs who (Ends answer) world fault room = record { new = world; left = refl; run = (refl, refl) }
alone_runs {A} who (Calls x next) world fault room =
    by (strikes (event_of x world.store) fault) refl (alone_runs who (next world.store) (after_call who.line who.party x None world) (waiting_after (event_of x world.store) fault)) room
  where
    further : (end : AloneEnd A) → length world.store.history + 1 < drawn_base → IsRun who (next world.store) (after_call who.line who.party x None world) end → IsRun who (Calls x next) world end
    further end room rest = record { new = rest.new; left = rest.left; run = (world, (rivals_none who world, inr (has_room x world room, rest.run))) }

    by : (b : Bool) → strikes (event_of x world.store) fault ≡ b
        → (HadRoom (answered_end who.line who.party x next fault world.store).store → IsRun who (next world.store) (after_call who.line who.party x None world) (answered_end who.line who.party x next fault world.store))
        → HadRoom (cond b (struck_end {A = A} who.line who.party x fault world.store) (answered_end who.line who.party x next fault world.store)).store
        → IsRun who (Calls x next) world (cond b (struck_end {A = A} who.line who.party x fault world.store) (answered_end who.line who.party x next fault world.store))
    by true e rest room = record {
      new = after_call who.line who.party x (Some (does_stand fault)) world;
      left = refl;
      run = (world, (rivals_none who world, inl (struck_counts (event_of x world.store) fault e, (does_stand fault, refl))));
    }
    by false e rest room =
        let one = call_grows who.line who.party x None world.store in
        let on = alone_grows who.line who.party (next world.store) (waiting_after (event_of x world.store) fault) (after_answered who.line who.party x world.store) in
        further (answered_end who.line who.party x next fault world.store) (omega (arith, one, on, room)) (rest room)

pub alone_runs_are : AloneRuns
alone_runs_are who course world fault room = alone_runs who course world fault room
