-- The lines that start and end parties.
use Rattle.std.proofs.Common.{◌≡◌, refl, ap, subst, ℕ, List, [], ◌∷◌, ◌++◌, Bool, true, false, Option, Some, None, inl, inr}
use Rattle.std.specs.Prelude.{codes, decimal, ⊤, is_some}
use Rattle.std.specs.List.{AllByRecursion}
use Rattle.row_model.specs.Fold.{Operator, IsLawful}
use Rattle.fleet_model.specs.History.{Party, Writer, Coordinator, Worker, Event, Start, Kill, is_get_or_put}
use Rattle.fleet_model.specs.Store.{Store}
use Rattle.fleet_model.specs.Work.Parties.{LiveWorker, LiveCoordinator, Parties, coordinator_with, worker_with, without_coordinator, without_worker, with_coordinator, with_worker}
use Rattle.fleet_model.specs.Exchanges.{Plain}
use Rattle.step_model.specs.Past.{World}
use Rattle.step_model.specs.Entries.{party_eq}
use Rattle.step_model.specs.LawfulTables.{PlainFits}
use Rattle.step_model.specs.Rivals.{Caller, after_call}
use Rattle.step_model.specs.Kept.Keeps.{Keeps}
use Rattle.step_model.specs.Fits.{CoordinatorHolds}
use Rattle.step_model.specs.Courses.Course.{Course, Ends, calls_each}
use Rattle.step_model.specs.Courses.CourseRuns.{End, Gives, MeetsFault, Runs, IsLawfulCourse}
use Rattle.step_model.specs.Courses.StepEnds.{StepEnd, Reports}
use Rattle.step_model.specs.Steps.PollSteps.{start}
use Rattle.step_laws.specs.Runs.{CallsKeep}
use Rattle.step_laws.proofs.Runs.{runs_keep}
use Rattle.step_laws.proofs.Elements.{all_append}
use Rattle.commit_laws.proofs.AllCalls.{calls_keep}
use Rattle.course_laws.proofs.Sweeps.{NonePending}
use Rattle.course_laws.proofs.Starts.{starts_are_lawful}
use Rattle.worker_laws.proofs.Fewer.{idle_workers_fit}
use Rattle.coordinator_laws.proofs.Coordinators.{starts_fit}
use Rattle.script_model.specs.States.{State}
use Rattle.script_model.specs.Replies.{ok, reply}
use Rattle.script_model.specs.LineRuns.{LineEnd, LineCourse, run_line, line_end, no_such_party, if_some}
use Rattle.script_model.specs.Lines.Starts.{killed_first, start_notes, start_coordinator, only_notes, release_named, start_worker, end_coordinator, kill_worker}
use Rattle.line_laws.specs.Alone.{HadRoom}
use Rattle.line_laws.specs.States.{FleetKeeps, StateKeeps}
use Rattle.line_laws.proofs.Courses.{Split, split, all_calls, runs_hold, then_lawful, notes_lawful}
use Rattle.line_laws.proofs.Others.{coordinator_holds}
use Rattle.line_laws.proofs.Lines.{caller_of, world_of, Left, Spares, line_keeps, coordinator_gone, coordinator_comes, worker_gone, worker_stays}
use Rattle.line_laws.proofs.Steps.{none_comes}
use Rattle.line_laws.proofs.SameLines.{no_party_keeps}
use Rattle.step_laws.proofs.RanLaws.{only_met}

-- ---- notes

-- The party may make this note anywhere, and no fault strikes it.
pub record IsOwnNote (party : Party) (event : Event) : Type 0 where
  pub fits : (store : Store) → PlainFits party store event
  pub unstruck : is_get_or_put event ≡ false

own_kill : (party : Party) → IsOwnNote party (Kill party)
own_kill party = record { fits = λ store. refl; unstruck = refl }

own_start : (party : Party) → IsOwnNote party (Start party)
own_start party = record { fits = λ store. refl; unstruck = refl }

killed_own : (b : Bool) (party : Party) → AllByRecursion (IsOwnNote party) (killed_first b party)
killed_own true party = (own_kill party, tt)
killed_own false party = tt

all_fit : (party : Party) (notes : List Event) → AllByRecursion (IsOwnNote party) notes → AllByRecursion (λ event. (store : Store) → PlainFits party store event) notes
all_fit party [] own = tt
all_fit party (note ∷ notes) own = (own.0.fits, all_fit party notes own.1)

pub own_lawful : {A : Type 0} (who : Caller) (notes : List Event) (next : Course A) (world : World) → AllByRecursion (IsOwnNote who.party) notes → ((new : World) → IsLawfulCourse who new next) → IsLawfulCourse who world (calls_each notes next)
own_lawful who notes next world own after = notes_lawful who notes next world (all_fit who.party notes own) after

-- Notes alone end as they are to end.
pub notes_end : {A : Type 0} (who : Caller) (notes : List Event) (a : A) (old new : World) (end : A) → Runs who (calls_each notes (Ends a)) old new (Gives end) → a ≡ end
notes_end who [] a old new end run = run.1
notes_end who (note ∷ notes) a old new end (met, (rivals, inl stops)) = absurd stops
notes_end who (note ∷ notes) a old new end (met, (rivals, inr (room, run))) = notes_end who notes a _ new end run

-- No fault strikes a note.
notes_unstruck : {A : Type 0} (who : Caller) (notes : List Event) (a : A) (old new : World) → AllByRecursion (IsOwnNote who.party) notes → Runs who (calls_each notes (Ends a)) old new MeetsFault → ⊥
notes_unstruck who [] a old new own run = run.1
notes_unstruck who (note ∷ notes) a old new own (met, (rivals, inl stops)) = let counts = stops.0 in let none = own.0.unstruck in absurd (cc (counts, none))
notes_unstruck who (note ∷ notes) a old new own (met, (rivals, inr (room, run))) = notes_unstruck who notes a _ new own.1 run

-- The run of a course after notes, from where the notes led.
pub record AfterNotes {A : Type 0} (who : Caller) (next : Course A) (new : World) (answer : A) : Type 0 where
  pub mid : World
  pub kept : Keeps who.merge mid
  pub run : Runs who next mid new (Gives answer)

pub after_notes : {A : Type 0} (who : Caller) (notes : List Event) (next : Course A) (old new : World) (answer : A) → CallsKeep who.merge → who.alone ≡ true → AllByRecursion (IsOwnNote who.party) notes → Keeps who.merge old
    → Runs who (calls_each notes next) old new (Gives answer) → AfterNotes who next new answer
after_notes who [] next old new answer keep alone own kept run = record { mid = old; kept = kept; run = run }
after_notes who (note ∷ notes) next old new answer keep alone own kept (met, (rivals, inl stops)) = absurd stops
after_notes who (note ∷ notes) next old new answer keep alone own kept (met, (rivals, inr (room, run))) =
    after_notes who notes next (after_call who.line who.party (Plain note) None met) new answer keep alone own.1
    (keep (Plain note) who.line who.party None met (subst (Keeps who.merge) (only_met who old met alone rivals) kept) (own.0.fits met.store) tt) run

-- ---- lines of notes alone

-- A line of notes alone keeps the invariant if there was room, and if the parties that it leaves live fit.
notes_keep : (merge : Operator) (number : ℕ) (s : State) (party : Party) (notes : List Event) (parties : Parties) (k : StateKeeps merge s) → IsLawful merge → party_eq Writer party ≡ false → Spares party s.parties (only_notes party notes s parties).course
    → AllByRecursion (IsOwnNote party) notes → ((new : World) → Left (caller_of merge number party) s.parties new → NonePending new.store → FleetKeeps merge new parties)
    → HadRoom (run_line number s (only_notes party notes s parties)).1.store → StateKeeps merge (run_line number s (only_notes party notes s parties)).1
notes_keep merge number s party notes parties k lawful other spares own fits room =
    let who : Caller = caller_of merge number party in
    let a : LineEnd = record { reply = ok; parties = parties } in
    let is : IsLawfulCourse who (world_of merge s k) (calls_each notes (Ends a)) = own_lawful who notes (Ends a) (world_of merge s k) own (λ new. tt) in
    line_keeps merge number s (only_notes party notes s parties) k lawful is spares (record {
      struck = λ new run left. absurd (notes_unstruck who notes a (world_of merge s k) new own run);
      gives = λ new end run left.
          subst (FleetKeeps merge new) (ap (λ (e : LineEnd). e.parties) (notes_end who notes a (world_of merge s k) new end run))
          (fits new left (none_comes who (calls_each notes (Ends a)) (world_of merge s k) new (Gives end) lawful refl other k.fleet.store is k.fleet.none_pending run));
    }) room

pub start_worker_keeps : (merge : Operator) (number n : ℕ) (release : Option ℕ) (s : State) (k : StateKeeps merge s) → IsLawful merge → HadRoom (run_line number s (start_worker n release s)).1.store → StateKeeps merge (run_line number s (start_worker n release s)).1
start_worker_keeps merge number n release s k lawful room =
    notes_keep merge number s (Worker n) (killed_first (is_some (worker_with n s.parties)) (Worker n) ++ Start (Worker n) ∷ []) (with_worker (record { number = n; release = release_named release; attempts = [] }) s.parties) k lawful refl tt
    (all_append _ (killed_first (is_some (worker_with n s.parties)) (Worker n)) (Start (Worker n) ∷ []) (killed_own (is_some (worker_with n s.parties)) (Worker n)) (own_start (Worker n), tt))
    (λ new left none. worker_stays merge number (world_of merge s k) new s.parties (record { number = n; release = release_named release; attempts = [] }) k.fleet left none (idle_workers_fit merge new n (release_named release))) room

pub end_coordinator_keeps : (merge : Operator) (number n : ℕ) (s : State) (k : StateKeeps merge s) → IsLawful merge → HadRoom (run_line number s (end_coordinator n s)).1.store → StateKeeps merge (run_line number s (end_coordinator n s)).1
end_coordinator_keeps merge number n s k lawful room = by (coordinator_with n s.parties) room
  where
    line : Option LiveCoordinator → LineCourse
    line o = if_some o (no_such_party s) (λ c. only_notes (Coordinator n) (Kill (Coordinator n) ∷ []) s (without_coordinator n s.parties))

    by : (o : Option LiveCoordinator) → HadRoom (run_line number s (line o)).1.store → StateKeeps merge (run_line number s (line o)).1
    by None room = no_party_keeps merge number s k
    by (Some c) room = notes_keep merge number s (Coordinator n) (Kill (Coordinator n) ∷ []) (without_coordinator n s.parties) k lawful refl tt (own_kill (Coordinator n), tt)
        (λ new left none. coordinator_gone merge number n (world_of merge s k) new s.parties k.fleet left none) room

pub kill_worker_keeps : (merge : Operator) (number n : ℕ) (s : State) (k : StateKeeps merge s) → IsLawful merge → HadRoom (run_line number s (kill_worker n s)).1.store → StateKeeps merge (run_line number s (kill_worker n s)).1
kill_worker_keeps merge number n s k lawful room = by (worker_with n s.parties) room
  where
    line : Option LiveWorker → LineCourse
    line o = if_some o (no_such_party s) (λ w. only_notes (Worker n) (Kill (Worker n) ∷ []) s (without_worker n s.parties))

    by : (o : Option LiveWorker) → HadRoom (run_line number s (line o)).1.store → StateKeeps merge (run_line number s (line o)).1
    by None room = no_party_keeps merge number s k
    by (Some w) room = notes_keep merge number s (Worker n) (Kill (Worker n) ∷ []) (without_worker n s.parties) k lawful refl tt (own_kill (Worker n), tt)
        (λ new left none. worker_gone merge number n (world_of merge s k) new s.parties k.fleet left none) room

-- ---- the start of a coordinator

-- Under a lawful operator, a line that starts a coordinator keeps the invariant if there was room.
pub start_coordinator_keeps : (merge : Operator) (number n : ℕ) (s : State) (k : StateKeeps merge s) → IsLawful merge → HadRoom (run_line number s (start_coordinator n s)).1.store → StateKeeps merge (run_line number s (start_coordinator n s)).1
start_coordinator_keeps merge number n s k lawful room =
    line_keeps merge number s (start_coordinator n s) k lawful line_lawful tt (record {
      struck = λ new run left. coordinator_gone merge number n world new s.parties k.fleet left (none new MeetsFault run);
      gives = λ new end run left. gave new end run left (split who step (λ end. calls_each (start_notes n end) (Ends (ends end))) world new end run);
    }) room
  where
    who : Caller
    who = caller_of merge number (Coordinator n)

    world : World
    world = world_of merge s k

    kills : List Event
    kills = killed_first (is_some (coordinator_with n s.parties)) (Coordinator n)

    step : Course (StepEnd ℕ)
    step = calls_each kills start

    ends : StepEnd ℕ → LineEnd
    ends = line_end (λ epoch. reply (codes "ok" ∷ codes "epoch" ∷ decimal epoch ∷ [])) (λ epoch. with_coordinator (record { number = n; epoch = epoch }) s.parties) (without_coordinator n s.parties)

    kills_own : AllByRecursion (IsOwnNote (Coordinator n)) kills
    kills_own = killed_own (is_some (coordinator_with n s.parties)) (Coordinator n)

    starts_own : (end : StepEnd ℕ) → AllByRecursion (IsOwnNote (Coordinator n)) (start_notes n end)
    starts_own (Reports epoch) = (own_start (Coordinator n), tt)
    starts_own end = tt

    step_is : IsLawfulCourse who world step
    step_is = own_lawful who kills start world kills_own (λ new. starts_are_lawful who new n refl)

    after_lawful : (end : StepEnd ℕ) (new : World) → IsLawfulCourse who new (calls_each (start_notes n end) (Ends (ends end)))
    after_lawful end new = own_lawful who (start_notes n end) (Ends (ends end)) new (starts_own end) (λ new. tt)

    line_lawful : IsLawfulCourse who world (start_coordinator n s).course
    line_lawful = then_lawful who step (λ end. calls_each (start_notes n end) (Ends (ends end))) world step_is after_lawful

    none : (new : World) (end : End LineEnd) → Runs who (start_coordinator n s).course world new end → NonePending new.store
    none new end run = none_comes who (start_coordinator n s).course world new end lawful refl refl k.fleet.store line_lawful k.fleet.none_pending run

    holds : (mid new : World) (epoch : ℕ) (end : LineEnd) → Runs who step world mid (Gives (Reports epoch)) → Runs who (calls_each (start_notes n (Reports epoch)) (Ends (ends (Reports epoch)))) mid new (Gives end)
        → CoordinatorHolds new (record { number = n; epoch = epoch }) None
    holds mid new epoch end first second =
        let c : LiveCoordinator = record { number = n; epoch = epoch } in
        let keep = calls_keep merge lawful in
        let b = after_notes who kills start world mid (Reports epoch) keep refl kills_own k.fleet.store first in
        runs_hold who (λ x. ⊤) (λ t. CoordinatorHolds t c None) (calls_each (start_notes n (Reports epoch)) (Ends (ends (Reports epoch)))) refl keep (coordinator_holds who c) (all_calls (λ x. ⊤) (λ x. tt) (calls_each (start_notes n (Reports epoch)) (Ends (ends (Reports epoch))))) mid new (Gives end)
        (runs_keep who step keep world mid (Gives (Reports epoch)) k.fleet.store step_is first) (after_lawful (Reports epoch) mid) second (starts_fit who b.mid mid n epoch lawful refl b.kept b.run)

    by : (answer : StepEnd ℕ) (mid new : World) (end : LineEnd) → Left who s.parties new → NonePending new.store → Runs who step world mid (Gives answer) → Runs who (calls_each (start_notes n answer) (Ends (ends answer))) mid new (Gives end)
        → FleetKeeps merge new (ends answer).parties
    by (Reports epoch) mid new end left quiet first second = coordinator_comes merge number world new s.parties (record { number = n; epoch = epoch }) k.fleet left quiet (holds mid new epoch end first second)
    by answer mid new end left quiet first second = coordinator_gone merge number n world new s.parties k.fleet left quiet

    gave : (new : World) (end : LineEnd) → Runs who (start_coordinator n s).course world new (Gives end) → Left who s.parties new → Split who step (λ end. calls_each (start_notes n end) (Ends (ends end))) world new end → FleetKeeps merge new end.parties
    gave new end run left parts =
        subst (FleetKeeps merge new) (ap (λ (e : LineEnd). e.parties) (notes_end who (start_notes n parts.answer) (ends parts.answer) parts.mid new end parts.second))
        (by parts.answer parts.mid new end left (none new (Gives end) run) parts.first parts.second)
