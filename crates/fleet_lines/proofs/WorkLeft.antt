-- What a fleet shows of its work is what the model says of its state.
use Rattle.std.proofs.Common.{◌≡◌, refl, sym, ◌∙◌, ap, ℕ, List, [], ◌∷◌, map, reverse, cond, Bool, true, false, Option, Some, None}
use Rattle.std.specs.Prelude.{◌==◌, ◌&&◌, ◌||◌, ◌↔◌, IsTrue, not, find, is_some, option_map}
use Rattle.std.specs.List.{list_any}
use Rattle.std.specs.Option.{option_or}
use Rattle.std.proofs.lemmas.List.Folds.{find-append}
use Rattle.std.proofs.lemmas.List.{reverse-append}
use Rattle.fleet_model.specs.History.{Party, Entry, Coordinator}
use Rattle.fleet_model.specs.Jobs.{is_active, is_finished, number_of}
use Rattle.fleet_model.specs.Store.{Store, Records, jobs_in, stored_jobs}
use Rattle.fleet_model.specs.Work.Gates.{is_nonempty}
use Rattle.fleet_model.specs.Work.Parties.{LiveCoordinator, LiveWorker, attempt_jobs, coordinator_with, worker_with}
use Rattle.step_model.specs.Entries.{last_event, last_from, party_eq}
use Rattle.script_model.specs.LineRuns.{if_some}
use Rattle.script_model.specs.Lines.Settles.{are_live, is_adding, jobs_run}
use Rattle.fleet_history.specs.Changes.{new_specs}
use Rattle.fleet_history.specs.Entries.{entry_of, event_of, history_of}
use Rattle.fleet_history.specs.Parties.{party_of}
use Rattle.fleet_history.specs.declared.entry.HistoryEntry.{HistoryEntry}
use Rattle.fleet_jobs.specs.Jobs.{is_open, job_of}
use Rattle.fleet_jobs.specs.Parts.JobParts.{JobParts}
use Rattle.fleet_jobs.specs.Status.{status_of}
use Rattle.fleet_jobs.specs.declared.spec.CompactionSpec.{CompactionSpec}
use Rattle.fleet_book.specs.VersionedRecords.{VersionedRecords}
use Rattle.fleet_book.specs.Versions.{records_of}
use Rattle.fleet_store.specs.Records.{AreRecords, jobs_or_none}
use Rattle.fleet_worker.specs.Workers.{AttemptParts, WorkerParts, attempt_of, live_of}
use Rattle.fleet_lines.specs.Fleets.{FleetParts, parties_of, state_of}
use Rattle.fleet_read.proofs.Trees.{find_map}

-- ---- live parties

-- One of a list is found if any passes the test.
found_any : {A : Type 0} (p : A → Bool) (xs : List A) → list_any p xs ≡ is_some (find p xs)
found_any p [] = refl
found_any p (x ∷ xs) = by (p x) (found_any p xs)
  where
    by : (b : Bool) → list_any p xs ≡ is_some (find p xs) → (b || list_any p xs) ≡ is_some (cond b (Some x) (find p xs))
    by true rest = refl
    by false rest = rest

mapped_some : {A B : Type 0} (f : A → B) (o : Option A) → is_some (option_map f o) ≡ is_some o
mapped_some f None = refl
mapped_some f (Some x) = refl

pub live_found : (coordinator worker : ℕ) (fleet : FleetParts)
    → (list_any (λ (c : LiveCoordinator). coordinator == c.number) fleet.coordinators && list_any (λ (w : WorkerParts). worker == w.number) fleet.workers) ≡ are_live coordinator worker (state_of fleet)
live_found coordinator worker fleet =
    ap (λ (a : Bool). a && list_any (λ (w : WorkerParts). worker == w.number) fleet.workers) (found_any (λ (c : LiveCoordinator). coordinator == c.number) fleet.coordinators)
    ∙ ap (λ (b : Bool). is_some (coordinator_with coordinator (parties_of fleet)) && b) found_worker
  where
    found_worker : list_any (λ (w : WorkerParts). worker == w.number) fleet.workers ≡ is_some (worker_with worker (parties_of fleet))
    found_worker =
        found_any (λ (w : WorkerParts). worker == w.number) fleet.workers
        ∙ sym (ap is_some (find_map live_of (λ (w : LiveWorker). worker == w.number) fleet.workers) ∙ mapped_some live_of (find (λ (w : WorkerParts). worker == w.number) fleet.workers))

module _ (coordinator worker : ℕ) (fleet : FleetParts) (coordinators : List LiveCoordinator) (workers : List WorkerParts) (same : coordinators ≡ fleet.coordinators) where
  abbrev some_coordinator : List LiveCoordinator → Bool
  some_coordinator cs = list_any (λ (c : LiveCoordinator). coordinator == c.number) cs

  abbrev some_worker : List WorkerParts → Bool
  some_worker ws = list_any (λ (w : WorkerParts). worker == w.number) ws

  -- The coordinator is live, so the worker decides.
  pub worker_decides : (a b : Bool) → a ≡ some_coordinator coordinators → a ≡ true → workers ≡ fleet.workers → b ≡ some_worker workers → b ≡ are_live coordinator worker (state_of fleet)
  worker_decides a b is_a lives same_workers is_b =
      let e : true ≡ some_coordinator fleet.coordinators = sym lives ∙ (is_a ∙ ap some_coordinator same) in
      is_b ∙ (ap some_worker same_workers ∙ (ap (λ (x : Bool). x && some_worker fleet.workers) e ∙ live_found coordinator worker fleet))

  -- The coordinator is not live.
  pub none_lives : (a : Bool) → a ≡ some_coordinator coordinators → a ≡ false → a ≡ are_live coordinator worker (state_of fleet)
  none_lives a is_a dead =
      let e : false ≡ some_coordinator fleet.coordinators = sym dead ∙ (is_a ∙ ap some_coordinator same) in
      dead ∙ (ap (λ (x : Bool). x && some_worker fleet.workers) e ∙ live_found coordinator worker fleet)

-- ---- active jobs

open_is_active : (job : JobParts) → is_open job ≡ is_active (job_of job)
open_is_active job = by (is_finished (status_of job.status))
  where
    by : (b : Bool) → not b ≡ cond b false true
    by true = refl
    by false = refl

any_open : (jobs : List JobParts) → list_any is_open jobs ≡ list_any is_active (map job_of jobs)
any_open [] = refl
any_open (job ∷ jobs) =
    ap (λ (a : Bool). a || list_any is_open jobs) (open_is_active job) ∙ ap (λ (b : Bool). is_active (job_of job) || b) (any_open jobs)

-- The program's records have a job that is not over if a stored job is active.
pub active_found : (records : Option VersionedRecords) (store : Store) → AreRecords records store → list_any is_open (jobs_or_none records) ≡ list_any is_active (stored_jobs store)
active_found records store are = by records ∙ ap (λ (o : Option Records). list_any is_active (jobs_in o)) are.same
  where
    by : (o : Option VersionedRecords) → list_any is_open (jobs_or_none o) ≡ list_any is_active (jobs_in (option_map records_of o))
    by None = refl
    by (Some r) = any_open r.compactions.jobs

-- The same of the records that are there.
pub active_seen : (found : Option VersionedRecords) (records : VersionedRecords) (store : Store) → AreRecords found store → found ≡ Some records → list_any is_open records.compactions.jobs ≡ list_any is_active (stored_jobs store)
active_seen found records store are is =
    ap (λ (o : Option VersionedRecords). list_any is_open (jobs_or_none o)) (sym is) ∙ active_found found store are

-- ---- the last entry

-- The poll added a job if its list of new jobs is not empty.
pub adds_some : (empty : Bool) (specs : List (ℕ × CompactionSpec)) → (IsTrue empty ↔ (specs ≡ [])) → not empty ≡ is_nonempty (new_specs specs)
adds_some empty [] says = ap not (says.1 refl)
adds_some true (new ∷ specs) says = absurd (cc (says.0 refl))
adds_some false (new ∷ specs) says = refl

-- An entry that is found, or another one.
abbrev found_or : Option Entry → Option HistoryEntry → Option Entry
found_or last None = last
found_or last (Some entry) = Some (entry_of entry)

-- The entry is of a call of the party.
abbrev pub is_of : Party → HistoryEntry → Bool
is_of party entry = party_eq party (party_of entry.party)

later_or : (last : Option Entry) (entry : HistoryEntry) (b : Bool) (o : Option HistoryEntry) → found_or last (option_or o (cond b (Some entry) None)) ≡ found_or (cond b (Some (entry_of entry)) last) o
later_or last entry true None = refl
later_or last entry false None = refl
later_or last entry b (Some e) = refl

-- The last entry of a party is the first one from the end.
last_found : (party : Party) (history : List HistoryEntry) (last : Option Entry) → found_or last (find (λ (e : HistoryEntry). is_of party e) (reverse history)) ≡ last_from last party (history_of history)
last_found party [] last = refl
last_found party (entry ∷ history) last =
    ap (λ (es : List HistoryEntry). found_or last (find (λ (e : HistoryEntry). is_of party e) es)) (reverse-append (entry ∷ []) history)
    ∙ (ap (found_or last) (find-append (λ (e : HistoryEntry). is_of party e) (reverse history) (entry ∷ []))
    ∙ (later_or last entry (is_of party entry) (find (λ (e : HistoryEntry). is_of party e) (reverse history)) ∙ last_found party history (cond (is_of party entry) (Some (entry_of entry)) last)))

-- The event of the last entry of a coordinator adds a job if that of the entry that is found does.
pub added_found : (coordinator : ℕ) (history : List HistoryEntry) (found : Option HistoryEntry) → found ≡ find (λ (e : HistoryEntry). party_eq (Coordinator coordinator) (party_of e.party)) (reverse history)
    → is_adding (option_map (λ (e : Entry). e.event) (found_or None found)) ≡ is_adding (last_event (Coordinator coordinator) (history_of history))
added_found coordinator history found is =
    ap (λ (o : Option Entry). is_adding (option_map (λ (e : Entry). e.event) o)) (ap (found_or None) is ∙ last_found (Coordinator coordinator) history None)

-- The entry that is found decides.
pub added_seen : (coordinator : ℕ) (history : List HistoryEntry) (found : Option HistoryEntry) (entry : HistoryEntry) (now : List Entry) → found ≡ find (λ (e : HistoryEntry). party_eq (Coordinator coordinator) (party_of e.party)) (reverse history) → found ≡ Some entry → history_of history ≡ now
    → is_adding (Some (event_of entry.event)) ≡ is_adding (last_event (Coordinator coordinator) now)
added_seen coordinator history found entry now is there same =
    ap (λ (o : Option HistoryEntry). is_adding (option_map (λ (e : Entry). e.event) (found_or None o))) (sym there)
    ∙ (added_found coordinator history found is ∙ ap (λ (h : List Entry). is_adding (last_event (Coordinator coordinator) h)) same)

-- If none is found, no poll added a job.
pub none_added : (coordinator : ℕ) (history : List HistoryEntry) (found : Option HistoryEntry) (now : List Entry) → found ≡ find (λ (e : HistoryEntry). party_eq (Coordinator coordinator) (party_of e.party)) (reverse history) → found ≡ None → history_of history ≡ now
    → false ≡ is_adding (last_event (Coordinator coordinator) now)
none_added coordinator history found now is none same =
    ap (λ (o : Option HistoryEntry). is_adding (option_map (λ (e : Entry). e.event) (found_or None o))) (sym none)
    ∙ (added_found coordinator history found is ∙ ap (λ (h : List Entry). is_adding (last_event (Coordinator coordinator) h)) same)

-- ---- the jobs of a worker

jobs_of_attempts : (attempts : List AttemptParts) → map (λ (a : AttemptParts). number_of a.job) attempts ≡ map number_of (attempt_jobs (map attempt_of attempts))
jobs_of_attempts [] = refl
jobs_of_attempts (a ∷ attempts) = ap (λ (ns : List ℕ). number_of a.job ∷ ns) (jobs_of_attempts attempts)

-- The numbers of the jobs of a worker, or none if there is no worker.
abbrev pub numbers_of : Option WorkerParts → List ℕ
numbers_of None = []
numbers_of (Some w) = map (λ (a : AttemptParts). number_of a.job) w.attempts

-- They are those of the worker of this number.
pub jobs_found : (worker : ℕ) (fleet : FleetParts) (found : Option WorkerParts) → found ≡ find (λ (w : WorkerParts). worker == w.number) fleet.workers → numbers_of found ≡ jobs_run worker (state_of fleet)
jobs_found worker fleet found is =
    by found ∙ ap (λ (o : Option LiveWorker). if_some o [] (λ (w : LiveWorker). map number_of (attempt_jobs w.attempts))) (ap (option_map live_of) is ∙ sym (find_map live_of (λ (w : LiveWorker). worker == w.number) fleet.workers))
  where
    by : (o : Option WorkerParts) → numbers_of o ≡ if_some (option_map live_of o) [] (λ (w : LiveWorker). map number_of (attempt_jobs w.attempts))
    by None = refl
    by (Some w) = jobs_of_attempts w.attempts

module _ (worker : ℕ) (fleet : FleetParts) (workers : List WorkerParts) (found : Option WorkerParts) (is : found ≡ find (λ (w : WorkerParts). worker == w.number) workers) (same : workers ≡ fleet.workers) where
  found_there : found ≡ find (λ (w : WorkerParts). worker == w.number) fleet.workers
  found_there = is ∙ ap (λ (ws : List WorkerParts). find (λ (w : WorkerParts). worker == w.number) ws) same

  -- The worker that is found runs these attempts.
  pub jobs_seen : (w : WorkerParts) (attempts : List AttemptParts) → found ≡ Some w → attempts ≡ w.attempts → map (λ (a : AttemptParts). number_of a.job) attempts ≡ jobs_run worker (state_of fleet)
  jobs_seen w attempts there run =
      ap (λ (xs : List AttemptParts). map (λ (a : AttemptParts). number_of a.job) xs) run ∙ (ap numbers_of (sym there) ∙ jobs_found worker fleet found found_there)

  -- If none is found, no job runs.
  pub none_seen : found ≡ None → [] ≡ jobs_run worker (state_of fleet)
  none_seen none = ap numbers_of (sym none) ∙ jobs_found worker fleet found found_there
