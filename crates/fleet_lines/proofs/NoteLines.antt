-- The lines that only make notes: those that start a worker, and those that end a party without a step.
use Rattle.std.proofs.Common.{◌≡◌, refl, sym, ◌∙◌, ap, subst, ℕ, List, [], ◌∷◌, ◌++◌, Bool, true, false, Option, Some, None}
use Rattle.std.specs.Prelude.{⊤, ◌==◌, not, filter, find, map, option_map, is_some}
use Rattle.std.specs.List.{AllByRecursion}
use Rattle.row_model.specs.Fold.{Operator, IsLawful}
use Rattle.fleet_model.specs.Exchanges.{Fault}
use Rattle.fleet_model.specs.Jobs as jobs
use Rattle.fleet_model.specs.History.{Party, Coordinator, Worker, Event, Start, Kill}
use Rattle.fleet_model.specs.Work.Parties.{LiveCoordinator, LiveWorker, Parties, worker_with, without_coordinator, without_worker, with_worker}
use Rattle.step_model.specs.Past.{World}
use Rattle.step_model.specs.Rivals.{Caller}
use Rattle.step_model.specs.Kept.Keeps.{Keeps}
use Rattle.step_model.specs.Courses.Course.{Course, Ends, calls_each}
use Rattle.step_model.specs.Courses.CourseRuns.{End, Gives}
use Rattle.step_model.specs.Courses.Ran.{Ran}
use Rattle.step_laws.proofs.RanLaws.{ran_runs}
use Rattle.step_laws.proofs.Runs.{runs_keep}
use Rattle.commit_laws.proofs.AllCalls.{calls_keep}
use Rattle.course_laws.proofs.Composed.{then_ran}
use Rattle.worker_laws.proofs.Fewer.{idle_workers_fit}
use Rattle.script_model.specs.LineRuns.{LineCourse, LineEnd, if_some, no_such_party}
use Rattle.script_model.specs.Lines.Starts.{killed_first, only_notes, release_named, start_worker, end_coordinator, kill_worker}
use Rattle.script_model.specs.Replies.{ok}
use Rattle.line_laws.specs.States.{FleetKeeps}
use Rattle.line_laws.proofs.Lines.{caller_of}
use Rattle.line_laws.proofs.PartyLines.{IsOwnNote, own_lawful}
use Rattle.fleet_history.specs.Parties.{party_of}
use Rattle.fleet_history.specs.declared.party.Party as own
use Rattle.fleet_history.specs.declared.party.Party.TheVariants as party
use Rattle.fleet_store.specs.Memory.{StoreParts}
use Rattle.fleet_worker.specs.Workers.{WorkerParts, live_of, started_worker}
use Rattle.fleet_jobs.specs.Workers.{release_of}
use Rattle.fleet_jobs.specs.declared.release.Release.{Release}
use Rattle.fleet_lines.specs.Fleets.{FleetParts, Stands, options_of, parties_of, state_of}
use Rattle.fleet_lines.specs.Lines.{RunsAlone}
use Rattle.fleet_lines.specs.Steps.{Noted, note_event, nothing}
use Rattle.fleet_read.proofs.Trees.{find_map}
use Rattle.fleet_lines.proofs.Lists.{filter_map}
use Rattle.fleet_lines.proofs.Made.{ran_later}
use Rattle.fleet_lines.proofs.Runs.{state_at, line_gives}
use Rattle.fleet_lines.proofs.Kept.{worker_goes, worker_goes_on, coordinator_goes}
use Rattle.fleet_lines.proofs.Standing.{still_up, some_up}

-- ---- notes

-- A party that comes or goes may note it anywhere.
pub own_note : (comes : Bool) (p : own.Party) → IsOwnNote (party_of p) (note_event comes p)
own_note true p = record { fits = λ store. refl; unstruck = refl }
own_note false p = record { fits = λ store. refl; unstruck = refl }

pub own_kills : (b : Bool) (p : own.Party) → AllByRecursion (IsOwnNote (party_of p)) (killed_first b (party_of p))
own_kills true p = (own_note false p, tt)
own_kills false p = tt

-- Notes that were made, and then what comes after them.
pub then_on : {A : Type 0} (who : Caller) (b : Bool) (p : Party) (next : Course A) (old mid new : World) (waits between left : Option Fault) (end : End A) → Ran who (calls_each (killed_first b p) (Ends nothing)) old mid waits between (Gives nothing)
    → Ran who next mid new between left end → Ran who (calls_each (killed_first b p) next) old new waits left end
then_on who true p next old mid new waits between left end noted ran = then_ran who (calls_each (Kill p ∷ []) (Ends nothing)) (λ (said : ⊤). next) old mid new nothing waits between left end noted ran
then_on who false p next old mid new waits between left end noted ran = then_ran who (Ends nothing) (λ (said : ⊤). next) old mid new nothing waits between left end noted ran

-- A note, and the answer after it.
pub one_note : {A : Type 0} (who : Caller) (event : Event) (answer : A) (old new : World) (waits left : Option Fault) → Ran who (calls_each (event ∷ []) (Ends nothing)) old new waits left (Gives nothing) → Ran who (calls_each (event ∷ []) (Ends answer)) old new waits left (Gives answer)
one_note who event answer old new waits left noted = then_ran who (calls_each (event ∷ []) (Ends nothing)) (λ (said : ⊤). Ends answer) old new new nothing waits left left (Gives answer) noted (refl, (λ alone. refl, refl))

-- Notes keep the invariant of the store.
pub notes_keep : (merge : Operator) (number : ℕ) (p : own.Party) (notes : List Event) (old new : StoreParts) → IsLawful merge → Keeps merge old.world → AllByRecursion (IsOwnNote (party_of p)) notes → Noted merge number p notes old new → Keeps merge new.world
notes_keep merge number p notes old new lawful kept own noted =
    let who = caller_of merge number (party_of p) in
    runs_keep who (calls_each notes (Ends nothing)) (calls_keep merge lawful) old.world new.world (Gives nothing) kept (own_lawful who notes (Ends nothing) old.world own (λ new. tt)) (ran_runs who (calls_each notes (Ends nothing)) old.world new.world old.waits new.waits (Gives nothing) noted.ran)

-- ---- workers

-- Whether a worker with this number is live.
pub is_live : (n : ℕ) (fleet : FleetParts) → is_some (find (λ (w : WorkerParts). n == w.number) fleet.workers) ≡ is_some (worker_with n (parties_of fleet))
is_live n fleet = mapped (find (λ (w : WorkerParts). n == w.number) fleet.workers) ∙ sym (ap (λ (o : Option LiveWorker). is_some o) (find_map live_of (λ (w : LiveWorker). n == w.number) fleet.workers))
  where
    mapped : (o : Option WorkerParts) → is_some o ≡ is_some (option_map live_of o)
    mapped None = refl
    mapped (Some w) = refl

-- The workers without the one with this number.
abbrev pub others : ℕ → List WorkerParts → List WorkerParts
others n workers = filter (λ w. not (n == w.number)) workers

pub others_live : (n : ℕ) (workers : List WorkerParts) → filter (λ (w : LiveWorker). not (n == w.number)) (map live_of workers) ≡ map live_of (others n workers)
others_live n workers = filter_map live_of (λ (w : LiveWorker). not (n == w.number)) workers

-- The notes of a start, after that of a kill if the worker was live, run the line that starts a worker.
pub start_worker_runs : (merge : Operator) (number n : ℕ) (release : Option ℕ) (named : Release) (was_live : Bool) (old : FleetParts) (mid store : StoreParts) (answer : List ℕ) → IsLawful merge → Stands merge old → release_of named ≡ release_named release
    → was_live ≡ is_some (find (λ (w : WorkerParts). n == w.number) old.workers) → Noted merge number (party.Worker n) (killed_first was_live (Worker n)) old.store mid → Noted merge number (party.Worker n) (note_event true (party.Worker n) ∷ []) mid store → answer ≡ ok
    → RunsAlone merge number (state_of old) (start_worker n release (state_of old)) old (record old { store = store; workers = started_worker n named ∷ others n old.workers }) answer
start_worker_runs merge number n release named was_live old mid store answer lawful stands is_named was killed noted says =
    rw says (subst (λ (b : Bool). RunsAlone merge number (state_of old) (only_notes (Worker n) (killed_first b (Worker n) ++ Start (Worker n) ∷ []) (state_of old) (with_worker (record { number = n; release = release_named release; attempts = [] }) (parties_of old))) old new ok)
    (was ∙ is_live n old) (by was_live killed))
  where
    who : Caller
    who = caller_of merge number (Worker n)

    new : FleetParts
    new = record old { store = store; workers = started_worker n named ∷ others n old.workers }

    w : LiveWorker
    w = record { number = n; release = release_named release; attempts = [] }

    end : LineEnd
    end = record { reply = ok; parties = with_worker w (parties_of old) }

    with_first : LiveWorker → List LiveWorker → Parties
    with_first v ws = record { coordinators = old.coordinators; workers = v ∷ ws }

    idle : jobs.Release → LiveWorker
    idle r = record { number = n; release = r; attempts = [] }

    same : with_worker w (parties_of old) ≡ parties_of new
    same = ap (λ (ws : List LiveWorker). with_first w ws) (others_live n old.workers) ∙ ap (λ (r : jobs.Release). with_first (idle r) (map live_of (others n old.workers))) (sym is_named)

    finish : (notes : List Event) → AllByRecursion (IsOwnNote (Worker n)) notes → Ran who (calls_each notes (Ends end)) old.store.world store.world old.store.waits store.waits (Gives end) → RunsAlone merge number (state_of old) (only_notes (Worker n) notes (state_of old) (with_worker w (parties_of old))) old new ok
    finish notes own ran =
        let run = ran_runs who (calls_each notes (Ends end)) old.store.world store.world old.store.waits store.waits (Gives end) ran in
        record {
          ends =
              line_gives merge number (options_of old.options) old.moment (parties_of old) (only_notes (Worker n) notes (state_of old) (with_worker w (parties_of old))) old.store.world store.world old.store.waits store.waits end ran
              ∙ ap (λ (parties : Parties). (ok, state_at (options_of old.options) old.moment store.world store.waits parties)) same;
          stands = record {
            keeps = subst (FleetKeeps merge store.world) same
                (worker_goes_on merge number w old.store.world store.world (parties_of old) (calls_each notes (Ends end)) (Gives end) lawful stands.keeps (own_lawful who notes (Ends end) old.store.world own (λ last. tt)) run (idle_workers_fit merge store.world n (release_named release)));
            up = (
              record { runs = refl; noted = tt },
              still_up old.store.world.store store.world.store (others n old.workers) (ran_later merge number (party.Worker n) (calls_each notes (Ends end)) old.store.world store.world old.store.waits store.waits (Gives end) ran)
                  (some_up old.store.world.store (λ w. not (n == w.number)) old.workers stands.up),
            );
            few = stands.few;
          };
          same_name = refl;
        }

    last : Ran who (calls_each (Start (Worker n) ∷ []) (Ends end)) mid.world store.world mid.waits store.waits (Gives end)
    last = one_note who (Start (Worker n)) end mid.world store.world mid.waits store.waits noted.ran

    by : (b : Bool) → Noted merge number (party.Worker n) (killed_first b (Worker n)) old.store mid → RunsAlone merge number (state_of old) (only_notes (Worker n) (killed_first b (Worker n) ++ Start (Worker n) ∷ []) (state_of old) (with_worker w (parties_of old))) old new ok
    by true killed = finish (Kill (Worker n) ∷ Start (Worker n) ∷ []) (own_note false (party.Worker n), (own_note true (party.Worker n), tt))
        (then_on who true (Worker n) (calls_each (Start (Worker n) ∷ []) (Ends end)) old.store.world mid.world store.world old.store.waits mid.waits store.waits (Gives end) killed.ran last)
    by false killed = finish (Start (Worker n) ∷ []) (own_note true (party.Worker n), tt)
        (then_on who false (Worker n) (calls_each (Start (Worker n) ∷ []) (Ends end)) old.store.world mid.world store.world old.store.waits mid.waits store.waits (Gives end) killed.ran last)

-- ---- parties that go

-- A line that names a party that is live.
if_live : {A B : Type 0} (o : Option A) (none some : B) → is_some o ≡ true → if_some o none (λ (x : A). some) ≡ some
if_live None none some e = absurd (cc e)
if_live (Some x) none some e = refl

-- The note of a kill runs the line that kills a live worker.
pub kill_worker_runs : (merge : Operator) (number n : ℕ) (old : FleetParts) (store : StoreParts) (answer : List ℕ) → IsLawful merge → Stands merge old → is_some (find (λ (w : WorkerParts). n == w.number) old.workers) ≡ true
    → Noted merge number (party.Worker n) (note_event false (party.Worker n) ∷ []) old.store store → answer ≡ ok
    → RunsAlone merge number (state_of old) (kill_worker n (state_of old)) old (record old { store = store; workers = others n old.workers }) answer
kill_worker_runs merge number n old store answer lawful stands live noted says =
    rw says (subst (λ (c : LineCourse). RunsAlone merge number (state_of old) c old new ok) (sym (if_live (worker_with n (parties_of old)) (no_such_party (state_of old)) course (sym (is_live n old) ∙ live))) (record {
      ends = line_gives merge number (options_of old.options) old.moment (parties_of old) course old.store.world store.world old.store.waits store.waits end ran
          ∙ ap (λ (ws : List LiveWorker). (ok, state_at (options_of old.options) old.moment store.world store.waits (record { coordinators = old.coordinators; workers = ws }))) (others_live n old.workers);
      stands = record {
        keeps = subst (λ (ws : List LiveWorker). FleetKeeps merge store.world (record { coordinators = old.coordinators; workers = ws })) (others_live n old.workers)
            (worker_goes merge number n old.store.world store.world (parties_of old) course.course (Gives end) lawful stands.keeps (own_lawful who (Kill (Worker n) ∷ []) (Ends end) old.store.world (own_note false (party.Worker n), tt) (λ last. tt))
            (ran_runs who course.course old.store.world store.world old.store.waits store.waits (Gives end) ran));
        up = still_up old.store.world.store store.world.store (others n old.workers) (ran_later merge number (party.Worker n) course.course old.store.world store.world old.store.waits store.waits (Gives end) ran)
            (some_up old.store.world.store (λ w. not (n == w.number)) old.workers stands.up);
        few = stands.few;
      };
      same_name = refl;
    }))
  where
    who : Caller
    who = caller_of merge number (Worker n)

    new : FleetParts
    new = record old { store = store; workers = others n old.workers }

    end : LineEnd
    end = record { reply = ok; parties = without_worker n (parties_of old) }

    course : LineCourse
    course = only_notes (Worker n) (Kill (Worker n) ∷ []) (state_of old) (without_worker n (parties_of old))

    ran : Ran who course.course old.store.world store.world old.store.waits store.waits (Gives end)
    ran = one_note who (Kill (Worker n)) end old.store.world store.world old.store.waits store.waits noted.ran

-- The note of a kill runs the line that kills or stops a live coordinator.
pub end_coordinator_runs : (merge : Operator) (number n : ℕ) (old : FleetParts) (store : StoreParts) (answer : List ℕ) → IsLawful merge → Stands merge old → is_some (find (λ (c : LiveCoordinator). n == c.number) old.coordinators) ≡ true
    → Noted merge number (party.Coordinator n) (note_event false (party.Coordinator n) ∷ []) old.store store → answer ≡ ok
    → RunsAlone merge number (state_of old) (end_coordinator n (state_of old)) old (record old { store = store; coordinators = filter (λ (c : LiveCoordinator). not (n == c.number)) old.coordinators }) answer
end_coordinator_runs merge number n old store answer lawful stands live noted says =
    rw says (subst (λ (c : LineCourse). RunsAlone merge number (state_of old) c old new ok) (sym (if_live (find (λ (c : LiveCoordinator). n == c.number) old.coordinators) (no_such_party (state_of old)) course live)) (record {
      ends = line_gives merge number (options_of old.options) old.moment (parties_of old) course old.store.world store.world old.store.waits store.waits end ran;
      stands = record {
        keeps = coordinator_goes merge number n old.store.world store.world (parties_of old) course.course (Gives end) lawful stands.keeps (own_lawful who (Kill (Coordinator n) ∷ []) (Ends end) old.store.world (own_note false (party.Coordinator n), tt) (λ last. tt))
            (ran_runs who course.course old.store.world store.world old.store.waits store.waits (Gives end) ran);
        up = still_up old.store.world.store store.world.store old.workers (ran_later merge number (party.Coordinator n) course.course old.store.world store.world old.store.waits store.waits (Gives end) ran) stands.up;
        few = stands.few;
      };
      same_name = refl;
    }))
  where
    who : Caller
    who = caller_of merge number (Coordinator n)

    new : FleetParts
    new = record old { store = store; coordinators = filter (λ (c : LiveCoordinator). not (n == c.number)) old.coordinators }

    end : LineEnd
    end = record { reply = ok; parties = without_coordinator n (parties_of old) }

    course : LineCourse
    course = only_notes (Coordinator n) (Kill (Coordinator n) ∷ []) (state_of old) (without_coordinator n (parties_of old))

    ran : Ran who course.course old.store.world store.world old.store.waits store.waits (Gives end)
    ran = one_note who (Kill (Coordinator n)) end old.store.world store.world old.store.waits store.waits noted.ran
