-- A worker's change of the records keeps the invariant, if it does so for each job that it names.
use Rattle.std.proofs.Common.{◌≡◌, ◌≢◌, refl, sym, ◌∙◌, ap, subst, ℕ, ◌+◌, List, [], ◌∷◌, ◌++◌, cond, Bool, true, false, inl, inr, Option, Some, None}
use Rattle.std.specs.Prelude.{IsTrue, ◌==◌, ◌&&◌}
use Rattle.std.specs.List.{AllByRecursion}
use Rattle.std.proofs.lemmas.Bool.Decides.{Decides-eqb}
use Rattle.row_model.specs.Fold.{Operator}
use Rattle.fleet_model.specs.Jobs.{JobSpec, Job, Jobs, Status, Submitted, Scheduled, Running, Compacted, Completed, Failed, status_eq, has_status, contains, job_with, changed_jobs, trimmed_jobs}
use Rattle.fleet_model.specs.History.{Party, PutRecords, RecordChange, Entry, Answer, stood}
use Rattle.fleet_model.specs.Work.Records.{Unrecorded, firsts, after_change, jobs_after}
use Rattle.fleet_model.specs.Trees.{tables_now}
use Rattle.fleet_model.specs.Nodes.{is_among}
use Rattle.row_model.specs.Lists.{Pairs}
use Rattle.fleet_model.specs.Work.Parties.{is_leased_to}
use Rattle.fleet_model.specs.Work.Gates.{reserves_nodes}
use Rattle.fleet_model.specs.Store.{Records, stored_jobs, records_epoch}
use Rattle.fleet_model.specs.Exchanges.{records_version}
use Rattle.fleet_model.specs.Past.Replay.{epoch_after, named_specs}
use Rattle.step_model.specs.Past.{World}
use Rattle.step_model.specs.Entries.{was_named, attempts_in, claimed_attempts, attempts_claimed_in, tables_brought_in}
use Rattle.step_model.specs.Kept.NamesKept.{IsUpTo}
use Rattle.step_model.specs.Kept.TablesKept.{NameApart}
use Rattle.step_model.specs.LawfulRecords.{IsStoredAs, IsLiveAt, OfSome}
use Rattle.step_model.specs.Kept.Keeps.{Keeps}
use Rattle.step_laws.proofs.Elements.{IsIn, all_at, contains_in}
use Rattle.step_laws.proofs.Mute.{IsQuietFor}
use Rattle.step_laws.proofs.Bodies.{Body, JobKept, whole_of, keeps_of}
use Rattle.step_laws.proofs.OpenJobs.{is_open}
use Rattle.step_laws.proofs.TableReplays.{all_trimmed}
use Rattle.step_laws.proofs.Quiet.{draws_mute, puts_kept, table_none}
use Rattle.step_laws.proofs.Plain.{SameTables, trimmed_once}
use Rattle.step_laws.proofs.RecordsBodies.{with_records, objects_after, body_with_records}
use Rattle.step_laws.proofs.Changed.{IsWorkerChange, job_found, found_job, pairs_trimmed, ids_rise, held_once_on, later_on, all_on_these, by_these, same_epoch_fits, kept_quiet}

-- ---- named attempts

-- The stored job of a named attempt, and what is so of it.
pub record Named (world : World) (P : Job → Type 0) (id : ℕ) : Type 0 where
  pub job : Job
  pub stored : job_with id (stored_jobs world.store) ≡ Some job
  pub so : P job

pub stored_as : (world : World) (P : Job → Type 0) (id : ℕ) → IsStoredAs world id P → Named world P id
stored_as world P id h = by (job_with id (stored_jobs world.store)) refl h
  where
    by : (o : Option Job) → job_with id (stored_jobs world.store) ≡ o → OfSome P o → Named world P id
    by None e h = absurd h
    by (Some job) e h = record { job = job; stored = e; so = h }

pub stored_to : (world : World) (P Q : Job → Type 0) (id : ℕ) → ((job : Job) → P job → Q job) → IsStoredAs world id P → IsStoredAs world id Q
stored_to world P Q id f h = by (job_with id (stored_jobs world.store)) h
  where
    by : (o : Option Job) → OfSome P o → OfSome Q o
    by None h = h
    by (Some job) h = f job h

-- A stored job was named by a put.
pub stored_named : (merge : Operator) (world : World) (specs : ℕ → JobSpec) → Body merge world specs → (job : Job) (id : ℕ) → job_with id (stored_jobs world.store) ≡ Some job → IsTrue (was_named world.store.history id)
stored_named merge world specs b job id stored =
    let found = job_found id (stored_jobs world.store) job stored in
    let kept = all_at _ (stored_jobs world.store) job b.jobs found.there in
    subst (λ n. IsTrue (was_named world.store.history n)) found.same kept.facts.named

-- What is so of the stored job of each named attempt is so of each job that is named.
pub each_named : (world : World) (specs : ℕ → JobSpec) (merge : Operator) (P : Job → Type 0) (attempts : List (ℕ × ℕ)) → Body merge world specs → AllByRecursion (λ a. IsStoredAs world a.0 P) attempts
    → (job : Job) → IsIn job (stored_jobs world.store) → IsTrue (contains (firsts attempts) job.id) → P job
each_named world specs merge P attempts b each job there named = at (contains_in (firsts attempts) job.id named)
  where
    found : (list : List (ℕ × ℕ)) → AllByRecursion (λ a. IsStoredAs world a.0 P) list → IsIn job.id (firsts list) → P job
    found [] all there = absurd there
    found (a ∷ list) all (inl same) = subst (OfSome P) (ap (λ id. job_with id (stored_jobs world.store)) same ∙ found_job (stored_jobs world.store) job b.sound.job_ids there) all.0
    found (a ∷ list) all (inr there) = found list all.1 there

    at : IsIn job.id (firsts attempts) → P job
    at one = found attempts each one

-- ---- live jobs

running_open : (s : Status) → IsTrue (status_eq Running s) → IsTrue (is_open s)
running_open Running h = refl
running_open Submitted h = absurd (cc h)
running_open Scheduled h = refl
running_open Compacted h = absurd (cc h)
running_open Completed h = absurd (cc h)
running_open Failed h = absurd (cc h)

pub first_of_three : (a b c : Bool) → IsTrue (a && b && c) → IsTrue a
first_of_three true b c h = refl
first_of_three false b c h = absurd (cc h)

pub last_of_three : (a b c : Bool) → IsTrue (a && b && c) → IsTrue c
last_of_three true true c h = h
last_of_three true false c h = absurd (cc h)
last_of_three false b c h = absurd (cc h)

-- A live job is Running, and at this attempt.
pub live_open : (worker attempt : ℕ) (job : Job) → IsLiveAt worker attempt job → IsTrue (is_open job.status)
live_open worker attempt job live = running_open job.status (first_of_three (has_status Running job) (is_leased_to worker job.lease) (attempt == job.attempt) live)

pub live_attempt : (worker attempt : ℕ) (job : Job) → IsLiveAt worker attempt job → attempt ≡ job.attempt
live_attempt worker attempt job live = (Decides-eqb attempt job.attempt).0 (last_of_three (has_status Running job) (is_leased_to worker job.lease) (attempt == job.attempt) live)

-- The names of the attempts contain each of their jobs.
pub named_in : {A : Type 0} (a : ℕ × A) (attempts : List (ℕ × A)) → IsIn a attempts → IsTrue (contains (firsts attempts) a.0)
named_in a [] there = absurd there
named_in a (b ∷ attempts) (inl same) = ap (λ c. cond c true (contains (firsts attempts) a.0)) ((Decides-eqb b.0 a.0).1 (λ i. (same i).0))
named_in a (b ∷ attempts) (inr there) = by (b.0 == a.0) (named_in a attempts there)
  where
    by : (c : Bool) → IsTrue (contains (firsts attempts) a.0) → IsTrue (cond c true (contains (firsts attempts) a.0))
    by true h = refl
    by false h = h

-- ---- a put of a worker's change

-- The records after a put of a worker's change of these jobs.
abbrev pub worker_records : World → (Job → Job) → List ℕ → Records
worker_records world f these = record { version = records_version world.store.records + 1; epoch = records_epoch world.store.records; jobs = trimmed_jobs (changed_jobs f these (stored_jobs world.store)) }

-- What a worker's change has to keep.
pub record WorkerPut (merge : Operator) (world : World) (specs : ℕ → JobSpec) (f : Job → Job) (these : List ℕ) (change : RecordChange) (entry : Entry) : Type 0 where
  pub is : IsWorkerChange f
  pub holds : (job : Job) → IsIn job (stored_jobs world.store) → IsTrue (contains these job.id) → IsTrue (reserves_nodes (f job)) → IsTrue (reserves_nodes job)
  pub apart : Pairs NameApart (changed_jobs f these (stored_jobs world.store))
  pub own : AllByRecursion (IsUpTo (world.store.history ++ entry ∷ []) (trimmed_jobs (changed_jobs f these (stored_jobs world.store)))) (attempts_in (PutRecords change))
  pub once : Pairs (λ a b. a ≢ b) (claimed_attempts world.store.history ++ attempts_claimed_in true (PutRecords change))
  pub each : (job : Job) → IsIn job (stored_jobs world.store) → IsTrue (contains these job.id) → JobKept merge world specs job → JobKept merge (with_records world (worker_records world f these) entry) specs (f job)
  pub quiet : (job : Job) → contains these job.id ≡ false → IsQuietFor (stood entry.answer) (PutRecords change) job.id
  pub brought : AllByRecursion (λ id. IsTrue (is_among world.store.tables id)) (tables_brought_in true (PutRecords change))

-- How the change is made.
pub record IsMade (world : World) (u : Unrecorded) (f : Job → Job) (these : List ℕ) (change : RecordChange) : Type 0 where
  pub after : after_change u change (stored_jobs world.store) ≡ changed_jobs f these (stored_jobs world.store)
  pub unnamed : named_specs (PutRecords change) ≡ []
  pub tables : SameTables u (tables_now world.store.manifest.trees) change (stored_jobs world.store)
  pub epoch : epoch_after change world.store.records ≡ records_epoch world.store.records

-- A worker's change of the records that takes effect keeps the invariant, if each changed job is kept.
keeps_worker : (merge : Operator) (world : World) (u : Unrecorded) (f : Job → Job) (these : List ℕ) (change : RecordChange) (line : ℕ) (party : Party) (answer : Answer) → stood answer ≡ true → (k : Keeps merge world) → IsMade world u f these change
    → WorkerPut merge world k.stored.replay.specs f these change (record { line = line; party = party; event = PutRecords change; answer = answer })
    → Keeps merge (with_records world (worker_records world f these) (record { line = line; party = party; event = PutRecords change; answer = answer }))
keeps_worker merge world u f these change line party answer took k made put =
    let entry : Entry = record { line = line; party = party; event = PutRecords change; answer = answer } in
    let w = whole_of merge world k in
    let b = w.body in
    let specs = k.stored.replay.specs in
    let old = stored_jobs world.store in
    let after = changed_jobs f these old in
    let records = worker_records world f these in
    keeps_of merge (with_records world records entry) specs (record {
      body = body_with_records merge world specs records line party change answer took (record {
        objects = objects_after world specs line party change answer u (records_version world.store.records) (records_epoch world.store.records) (trimmed_jobs after) took refl (sym (ap trimmed_jobs made.after)) (sym made.epoch) made.tables;
        job_ids = pairs_trimmed _ after (ids_rise f these old put.is b.sound.job_ids);
        epochs = same_epoch_fits world.store.manifest world.store.records (records_version world.store.records + 1) (trimmed_jobs after) b.trees.epochs;
        held_once = pairs_trimmed _ after (held_once_on f these old put.is put.holds b.held_once);
        name_apart = pairs_trimmed _ after put.apart;
        trimmed_already = trimmed_once after;
        agrees = rw made.unnamed tt;
        drawn = rw made.unnamed tt;
        later = λ a up. later_on world.store.history entry f these old b.sound.job_ids put.is a up;
        own = put.own;
        once = put.once;
        jobs = all_trimmed _ after (all_on_these _ f these old (λ job there. by_these (JobKept merge (with_records world records entry) specs) f these job
            (λ named. put.each job there named (all_at _ old job b.jobs there))
            (λ other. kept_quiet merge world specs records entry job b (put.quiet job other) there (all_at _ old job b.jobs there))));
      }) b;
      draws = draws_mute world.store.jobs_drawn world.store.tables_drawn world.store.history entry refl refl w.draws;
      puts = puts_kept world.store.history entry world.store.tables (table_none (stood answer) entry.event refl) (rw took put.brought) w.puts;
    })

-- A lawful put of a worker's change.
pub worker_put_keeps : (merge : Operator) (world : World) (u : Unrecorded) (f : Job → Job) (these : List ℕ) (change : RecordChange) (line : ℕ) (party : Party) (answer : Answer) (epoch : ℕ) (jobs : Jobs) → stood answer ≡ true → (k : Keeps merge world)
    → IsMade world u f these change → jobs ≡ jobs_after u change (stored_jobs world.store) → epoch ≡ epoch_after change world.store.records
    → WorkerPut merge world k.stored.replay.specs f these change (record { line = line; party = party; event = PutRecords change; answer = answer })
    → Keeps merge (with_records world (record { version = records_version world.store.records + 1; epoch = epoch; jobs = jobs }) (record { line = line; party = party; event = PutRecords change; answer = answer }))
worker_put_keeps merge world u f these change line party answer epoch jobs took k made makes_jobs makes_epoch put =
    let same_jobs = makes_jobs ∙ ap trimmed_jobs made.after in
    let same_epoch = makes_epoch ∙ made.epoch in
    subst (λ (r : Records). Keeps merge (with_records world r (record { line = line; party = party; event = PutRecords change; answer = answer })))
    (λ i. record { version = records_version world.store.records + 1; epoch = sym same_epoch i; jobs = sym same_jobs i })
    (keeps_worker merge world u f these change line party answer took k made put)
