-- What a line leaves: its store, and what the parties hold of it.
use Rattle.std.proofs.Common.{◌≡◌, ◌≢◌, refl, sym, ◌∙◌, subst, ℕ, true, Option, Some, None}
use Rattle.std.specs.Prelude.{◌==◌, not, ⊤}
use Rattle.row_model.specs.Fold.{Operator, IsLawful}
use Rattle.fleet_model.specs.History.{Party, Writer, Submitter, Sweeper, Worker, Coordinator}
use Rattle.fleet_model.specs.Store.{Store}
use Rattle.fleet_model.specs.Work.Parties.{LiveWorker, LiveCoordinator, Parties, without_coordinator, without_worker, with_coordinator, with_worker}
use Rattle.step_model.specs.Past.{World}
use Rattle.step_model.specs.Rivals.{Caller}
use Rattle.step_model.specs.Kept.Keeps.{Keeps}
use Rattle.step_model.specs.Fits.{WorkerHolds, CoordinatorHolds}
use Rattle.step_model.specs.Courses.Course.{Course}
use Rattle.step_model.specs.Courses.CourseRuns.{End, Gives, MeetsFault, Runs, IsLawfulCourse}
use Rattle.step_model.specs.Courses.Alone.{AloneEnd, run_alone}
use Rattle.step_laws.proofs.Elements.{IsIn, all_at, all_from, all_to}
use Rattle.step_laws.proofs.Runs.{runs_keep}
use Rattle.step_laws.proofs.TableReplays.{all_filter}
use Rattle.commit_laws.proofs.AllCalls.{calls_keep}
use Rattle.course_laws.proofs.Calls.{pairs_filter}
use Rattle.course_laws.proofs.Sweeps.{NonePending}
use Rattle.rival_laws.specs.FitLaws.{SparesTables}
use Rattle.script_model.specs.States.{State}
use Rattle.script_model.specs.LineRuns.{LineEnd, LineCourse, run_line, end_or_fault, after_line}
use Rattle.line_laws.specs.Alone.{end_of, HadRoom, IsRun}
use Rattle.line_laws.specs.States.{FinishedAreStored, FleetKeeps, StateKeeps}
use Rattle.line_laws.proofs.AloneRuns.{alone_runs}
use Rattle.line_laws.proofs.Courses.{AllCalls, all_calls, runs_hold}
use Rattle.line_laws.specs.Undrained.{FlushesCount}
use Rattle.line_laws.proofs.FinishedJobs.{finished_holds}
use Rattle.line_laws.proofs.Undrained.{flushes_hold}
use Rattle.line_laws.specs.Counts.{JobsCount}
use Rattle.line_laws.proofs.Counts.{counts_hold}
use Rattle.line_laws.proofs.Parties.{others}
use Rattle.line_laws.proofs.Others.{worker_holds, spared_worker_holds, coordinator_holds}

-- ---- the run of a line

-- Who makes the calls of a line.
abbrev pub caller_of : Operator → ℕ → Party → Caller
caller_of merge number party = record { merge = merge; line = number; party = party; alone = true }

-- A worker of a party that is not the caller.
abbrev pub IsOther : Party → LiveWorker → Type 0
IsOther party w = party ≢ Worker w.number

-- What the run of a lawful course leaves to the parties that were live.
pub record Left (who : Caller) (parties : Parties) (new : World) : Type 0 where
  pub store : Keeps who.merge new
  pub finished : FinishedAreStored new.store
  pub flushes : FlushesCount new
  pub counts : JobsCount new.store
  pub workers : (w : LiveWorker) → IsIn w parties.workers → IsOther who.party w → WorkerHolds who.merge new w
  pub coordinators : (c : LiveCoordinator) → IsIn c parties.coordinators → CoordinatorHolds new c None

-- The course's calls delete no table that a live worker holds. Only a sweeper deletes tables.
abbrev pub Spares : {A : Type 0} → Party → Parties → Course A → Type 0
Spares Sweeper parties course = (w : LiveWorker) → IsIn w parties.workers → AllCalls (SparesTables w) course
Spares party parties course = ⊤

-- A lawful course that runs alone keeps the invariant of the store, and live parties other than the caller still fit.
pub leaves : {A : Type 0} (who : Caller) (course : Course A) (parties : Parties) (old new : World) (end : End A) → IsLawful who.merge → who.alone ≡ true → FleetKeeps who.merge old parties → IsLawfulCourse who old course
    → Spares who.party parties course → Runs who course old new end → Left who parties new
leaves {A} who course parties old new end merge_lawful alone fleet lawful spares run =
    let keep = calls_keep who.merge merge_lawful in
    record {
      store = runs_keep who course keep old new end fleet.store lawful run;
      finished = runs_hold who (λ x. ⊤) (λ world. FinishedAreStored world.store) course alone keep (finished_holds who) (all_calls (λ x. ⊤) (λ x. tt) course) old new end fleet.store lawful run fleet.finished;
      flushes = runs_hold who (λ x. ⊤) FlushesCount course alone keep (flushes_hold who merge_lawful keep) (all_calls (λ x. ⊤) (λ x. tt) course) old new end fleet.store lawful run fleet.flushes;
      counts = runs_hold who (λ x. ⊤) (λ world. JobsCount world.store) course alone keep (counts_hold who) (all_calls (λ x. ⊤) (λ x. tt) course) old new end fleet.store lawful run fleet.counts;
      workers = λ w there other. worker w there other who.party refl spares;
      coordinators = λ c there. runs_hold who (λ x. ⊤) (λ world. CoordinatorHolds world c None) course alone keep (coordinator_holds who c) (all_calls (λ x. ⊤) (λ x. tt) course) old new end fleet.store lawful run
          (all_at (λ c. CoordinatorHolds old c None) parties.coordinators c fleet.coordinators there);
    }
  where
    at : (w : LiveWorker) → IsIn w parties.workers → WorkerHolds who.merge old w
    at w there = all_at (WorkerHolds who.merge old) parties.workers w fleet.workers there

    unswept : (w : LiveWorker) → IsIn w parties.workers → IsOther who.party w → who.party ≢ Sweeper → WorkerHolds who.merge new w
    unswept w there other no_sweep =
        runs_hold who (λ x. ⊤) (λ world. WorkerHolds who.merge world w) course alone (calls_keep who.merge merge_lawful) (worker_holds who w no_sweep other) (all_calls (λ x. ⊤) (λ x. tt) course) old new end fleet.store lawful run (at w there)

    worker : (w : LiveWorker) → IsIn w parties.workers → IsOther who.party w → (party : Party) → who.party ≡ party → Spares party parties course → WorkerHolds who.merge new w
    worker w there other Sweeper by spared =
        runs_hold who (SparesTables w) (λ world. WorkerHolds who.merge world w) course alone (calls_keep who.merge merge_lawful) (spared_worker_holds who w other) (spared w there) old new end fleet.store lawful run (at w there)
    worker w there other Writer by spared = unswept w there other (λ same. absurd (cc (sym by ∙ same)))
    worker w there other Submitter by spared = unswept w there other (λ same. absurd (cc (sym by ∙ same)))
    worker w there other (Coordinator n) by spared = unswept w there other (λ same. absurd (cc (sym by ∙ same)))
    worker w there other (Worker n) by spared = unswept w there other (λ same. absurd (cc (sym by ∙ same)))

-- ---- the state after a line

-- The world of a state that keeps the invariant.
abbrev pub world_of : (merge : Operator) (s : State) → StateKeeps merge s → World
world_of merge s k = record { store = s.store; past = k.past }

-- The parties that are live after a line fit what its run left, if the run met a fault and if it gave an end.
pub record Fitting (merge : Operator) (number : ℕ) (s : State) (c : LineCourse) (k : StateKeeps merge s) : Type 0 where
  pub struck : (new : World) → Runs (caller_of merge number c.party) c.course (world_of merge s k) new MeetsFault → Left (caller_of merge number c.party) s.parties new → FleetKeeps merge new c.struck
  pub gives : (new : World) (end : LineEnd) → Runs (caller_of merge number c.party) c.course (world_of merge s k) new (Gives end) → Left (caller_of merge number c.party) s.parties new → FleetKeeps merge new end.parties

-- A line with a lawful course keeps the invariant if there was room, and if the parties that it leaves live fit.
pub line_keeps : (merge : Operator) (number : ℕ) (s : State) (c : LineCourse) (k : StateKeeps merge s) → IsLawful merge → IsLawfulCourse (caller_of merge number c.party) (world_of merge s k) c.course → Spares c.party s.parties c.course
    → Fitting merge number s c k → HadRoom (run_line number s c).1.store → StateKeeps merge (run_line number s c).1
line_keeps merge number s c k merge_lawful lawful spares fitting room =
    by (run_alone number c.party c.course s.fault s.store) (alone_runs (caller_of merge number c.party) c.course (world_of merge s k) s.fault room)
  where
    ends : (answer : Option LineEnd) (new : World) → Runs (caller_of merge number c.party) c.course (world_of merge s k) new (end_of answer) → FleetKeeps merge new (end_or_fault c.struck answer).parties
    ends None new run = fitting.struck new run (leaves (caller_of merge number c.party) c.course s.parties (world_of merge s k) new MeetsFault merge_lawful refl k.fleet lawful spares run)
    ends (Some end) new run = fitting.gives new end run (leaves (caller_of merge number c.party) c.course s.parties (world_of merge s k) new (Gives end) merge_lawful refl k.fleet lawful spares run)

    by : (alone : AloneEnd LineEnd) → IsRun (caller_of merge number c.party) c.course (world_of merge s k) alone → StateKeeps merge (after_line s (end_or_fault c.struck alone.answer) alone).1
    by alone is = record {
      past = is.new.past;
      fleet = subst (λ (store : Store). FleetKeeps merge (record { store = store; past = is.new.past }) (end_or_fault c.struck alone.answer).parties) is.left (ends alone.answer is.new is.run);
    }

-- ---- the parties after a line

-- All parties that were live are live still, if the caller is none of them.
pub all_stay : (merge : Operator) (number : ℕ) (party : Party) (old new : World) (parties : Parties) → ((w : LiveWorker) → IsOther party w) → FleetKeeps merge old parties → Left (caller_of merge number party) parties new → NonePending new.store
    → FleetKeeps merge new parties
all_stay merge number party old new parties other fleet left none = record {
  store = left.store;
  workers = all_from _ parties.workers (λ w there. left.workers w there (other w));
  coordinators = all_from _ parties.coordinators left.coordinators;
  workers_differ = fleet.workers_differ;
  coordinators_differ = fleet.coordinators_differ;
  none_pending = none;
  finished = left.finished;
  flushes = left.flushes;
  counts = left.counts;
}

-- The caller was a worker that is no longer live.
pub worker_gone : (merge : Operator) (number n : ℕ) (old new : World) (parties : Parties) → FleetKeeps merge old parties → Left (caller_of merge number (Worker n)) parties new → NonePending new.store → FleetKeeps merge new (without_worker n parties)
worker_gone merge number n old new parties fleet left none = record {
  store = left.store;
  workers = all_to _ _ (without_worker n parties).workers (λ w there h. left.workers w h.0 (λ same. h.1 (number_of_worker n w.number same))) (others (λ (w : LiveWorker). w.number) n parties.workers);
  coordinators = all_from _ parties.coordinators left.coordinators;
  workers_differ = pairs_filter _ (λ (w : LiveWorker). not (n == w.number)) parties.workers fleet.workers_differ;
  coordinators_differ = fleet.coordinators_differ;
  none_pending = none;
  finished = left.finished;
  flushes = left.flushes;
  counts = left.counts;
}
  where
    number_of_worker : (n m : ℕ) → Worker n ≡ Worker m → n ≡ m
    number_of_worker n m same = cc same

-- The caller is a worker that is live and fits.
pub worker_stays : (merge : Operator) (number : ℕ) (old new : World) (parties : Parties) (w : LiveWorker) → FleetKeeps merge old parties → Left (caller_of merge number (Worker w.number)) parties new → NonePending new.store → WorkerHolds merge new w
    → FleetKeeps merge new (with_worker w parties)
worker_stays merge number old new parties w fleet left none holds =
    let gone = worker_gone merge number w.number old new parties fleet left none in
    record {
      store = gone.store;
      workers = (holds, gone.workers);
      coordinators = gone.coordinators;
      workers_differ = (all_to _ _ (without_worker w.number parties).workers (λ v there h. h.1) (others (λ (v : LiveWorker). v.number) w.number parties.workers), gone.workers_differ);
      coordinators_differ = gone.coordinators_differ;
      none_pending = none;
      finished = left.finished;
      flushes = left.flushes;
      counts = left.counts;
    }

-- The caller was a coordinator that is no longer live.
pub coordinator_gone : (merge : Operator) (number n : ℕ) (old new : World) (parties : Parties) → FleetKeeps merge old parties → Left (caller_of merge number (Coordinator n)) parties new → NonePending new.store
    → FleetKeeps merge new (without_coordinator n parties)
coordinator_gone merge number n old new parties fleet left none = record {
  store = left.store;
  workers = all_from _ parties.workers (λ w there. left.workers w there (λ same. absurd (cc same)));
  coordinators = all_filter _ (λ (c : LiveCoordinator). not (n == c.number)) parties.coordinators (all_from _ parties.coordinators left.coordinators);
  workers_differ = fleet.workers_differ;
  coordinators_differ = pairs_filter _ (λ (c : LiveCoordinator). not (n == c.number)) parties.coordinators fleet.coordinators_differ;
  none_pending = none;
  finished = left.finished;
  flushes = left.flushes;
  counts = left.counts;
}

-- The caller is a coordinator that is live and fits.
pub coordinator_comes : (merge : Operator) (number : ℕ) (old new : World) (parties : Parties) (c : LiveCoordinator) → FleetKeeps merge old parties → Left (caller_of merge number (Coordinator c.number)) parties new → NonePending new.store
    → CoordinatorHolds new c None → FleetKeeps merge new (with_coordinator c parties)
coordinator_comes merge number old new parties c fleet left none holds =
    let gone = coordinator_gone merge number c.number old new parties fleet left none in
    record {
      store = gone.store;
      workers = gone.workers;
      coordinators = (holds, gone.coordinators);
      workers_differ = gone.workers_differ;
      coordinators_differ = (all_to _ _ (without_coordinator c.number parties).coordinators (λ d there h. h.1) (others (λ (d : LiveCoordinator). d.number) c.number parties.coordinators), gone.coordinators_differ);
      none_pending = none;
      finished = left.finished;
      flushes = left.flushes;
      counts = left.counts;
    }
