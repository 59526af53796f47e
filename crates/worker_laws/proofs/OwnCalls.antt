-- A worker's own call keeps what it holds.
use Rattle.std.proofs.Common.{◌≡◌, refl, sym, ◌∙◌, ap, subst, ℕ, ◌+◌, ◌≤◌, List, [], ◌∷◌, ◌++◌, cond, Bool, true, false, inl, Some, None, arith}
use Rattle.std.specs.Prelude.{IsTrue, IfSome, ◌==◌, ◌&&◌, is_none, if◌then◌else◌}
use Rattle.std.specs.List.{concat}
use Rattle.std.proofs.lemmas.Bool.Decides.{Decides-eqb}
use Rattle.row_model.specs.Fold.{Operator}
use Rattle.fleet_model.specs.Jobs.{Job, Jobs, Running, has_status, is_active, contains, changed_jobs, trimmed_jobs, job_with}
use Rattle.fleet_model.specs.History.{Party, Worker, Event, GetManifest, GetRecords, GetTable, Plan, Start, Kill, DrawJob, PutRecords, RecordChange, RecordsEpoch, Submit, Claim, Beat, Finish, Release, Polled, Done, Conflict, Answer, Entry, stood}
use Rattle.fleet_model.specs.Store.{stored_jobs}
use Rattle.fleet_model.specs.Work.Records.{Unrecorded, firsts, claimed_by, beaten_by, finished_by, to_waiting, jobs_after}
use Rattle.fleet_model.specs.Work.Parties.{Attempt, LiveWorker, is_live, is_leased_to, live_attempts, runs_attempt}
use Rattle.fleet_model.specs.Work.Claims.{is_waiting}
use Rattle.fleet_model.specs.Past.Claimed.{beaten_in, if_earlier, origin}
use Rattle.fleet_model.specs.Exchanges.{Plain, DrawsJob, DrawsTable, PutsTable, PutsManifest, PutsRecords, ListsTables, DeletesTable, records_version, with_entry, event_of, next_job_id}
use Rattle.step_model.specs.Past.{World, world_after}
use Rattle.step_model.specs.LawfulTables.{PlainFits}
use Rattle.step_model.specs.LawfulRecords.{ChangeFits, RecordsFit, OfSome, IsLiveAt, Publishes}
use Rattle.step_model.specs.Rivals.{after_call}
use Rattle.step_model.specs.Kept.Keeps.{Keeps}
use Rattle.step_model.specs.Fits.{AttemptHeld, WorkerHolds, noted_tables}
use Rattle.step_laws.proofs.Elements.{IsIn, all_at, all_to, in_contains}
use Rattle.step_laws.proofs.Deletions.{in_filter}
use Rattle.step_laws.proofs.OwnTables.{apart_at}
use Rattle.step_laws.proofs.Mute.{IsMute, mute_event}
use Rattle.step_laws.proofs.Worlds.{beaten_stays}
use Rattle.step_laws.proofs.Beaten.{attempt_named}
use Rattle.step_laws.proofs.Quiet.{world_entered, claimed_up_to}
use Rattle.step_laws.proofs.Bodies.{whole_of}
use Rattle.step_laws.proofs.TableBodies.{active_if_open}
use Rattle.step_laws.proofs.RecordsBodies.{with_records, world_with_records}
use Rattle.step_laws.proofs.Changed.{found_job}
use Rattle.step_laws.proofs.WorkerPuts.{stored_as, stored_to, each_named, live_open, live_attempt}
use Rattle.rival_laws.proofs.AttemptFacts.{origin_kept}
use Rattle.course_laws.proofs.OwnCalls.{holds_entered, holds_refused}
use Rattle.course_laws.proofs.Written.{holds_put, holds_drawn}
use Rattle.worker_laws.specs.OwnCalls.{SparesOwn, OwnCallsKeep}
use Rattle.worker_laws.proofs.Live.{waiting_active, leased_runs}
use Rattle.worker_laws.proofs.OwnPuts.{LeftAs, OwnPut, holds_own}
use Rattle.rival_laws.proofs.FreeTables.{refused}

-- ---- entries

entry_holds : (merge : Operator) (line : ℕ) (party : Party) (world : World) (w : LiveWorker) (jobs_drawn : ℕ) (event : Event) (answer : Answer) → IsMute (stood answer) event → WorkerHolds merge world w
    → WorkerHolds merge (world_after world (record world.store { jobs_drawn = jobs_drawn; history = world.store.history ++ record { line = line; party = party; event = event; answer = answer } ∷ [] })) w
entry_holds merge line party world w jobs_drawn event answer mute h =
    let entry : Entry = record { line = line; party = party; event = event; answer = answer } in
    subst (λ (t : World). WorkerHolds merge t w) (sym (world_entered world world.store.deleted jobs_drawn world.store.tables_drawn entry)) (holds_entered merge world w jobs_drawn world.store.tables_drawn entry mute.quiet h)

plain_holds : (merge : Operator) (line : ℕ) (party : Party) (world : World) (w : LiveWorker) (event : Event) (answer : Answer) → PlainFits party world.store event → WorkerHolds merge world w → WorkerHolds merge (world_after world (with_entry line party event answer world.store)) w
plain_holds merge line party world w GetManifest answer fits h = entry_holds merge line party world w world.store.jobs_drawn GetManifest answer (mute_event (stood answer) GetManifest refl) h
plain_holds merge line party world w GetRecords answer fits h = entry_holds merge line party world w world.store.jobs_drawn GetRecords answer (mute_event (stood answer) GetRecords refl) h
plain_holds merge line party world w (GetTable table) answer fits h = entry_holds merge line party world w world.store.jobs_drawn (GetTable table) answer (mute_event (stood answer) (GetTable table) refl) h
plain_holds merge line party world w (Plan job attempt ranges) answer fits h = entry_holds merge line party world w world.store.jobs_drawn (Plan job attempt ranges) answer (mute_event (stood answer) (Plan job attempt ranges) refl) h
plain_holds merge line party world w (Start other) answer fits h = entry_holds merge line party world w world.store.jobs_drawn (Start other) answer (mute_event (stood answer) (Start other) refl) h
plain_holds merge line party world w (Kill other) answer fits h = entry_holds merge line party world w world.store.jobs_drawn (Kill other) answer (mute_event (stood answer) (Kill other) refl) h
plain_holds merge line party world w event answer fits h = absurd fits

-- ---- changes that are no heartbeats

same_worker : (n m : ℕ) (party : Party) → party ≡ Worker n → party ≡ Worker m → m ≡ n
same_worker n m party own by = cc (sym own ∙ by)

-- The entry says nothing of heartbeats, so origins stay.
quiet_origin : (world : World) (entry : Entry) (a : Attempt) → (if stood entry.answer then beaten_in a.job entry.event else None) ≡ None → origin world.store.history a.job a.number ≡ origin (world.store.history ++ entry ∷ []) a.job a.number
quiet_origin world entry a quiet = sym (ap (if_earlier a.number) (beaten_stays a.job world.store.history entry quiet))

-- The entry of the worker's put.
abbrev pub own_entry : ℕ → Party → World → RecordChange → Entry
own_entry line party world change = record { line = line; party = party; event = PutRecords change; answer = Done (records_version world.store.records + 1) }

-- The put of a claim keeps what a worker's attempts read, and names no further table that a live one noted.
claim_spares : (merge : Operator) (line : ℕ) (party : Party) (world : World) (w : LiveWorker) (u : Unrecorded) (worker : ℕ) (attempts : List (ℕ × ℕ)) (jobs : Jobs) → Keeps merge world → ChangeFits merge party world u jobs (Claim worker attempts)
    → OwnPut world w (claimed_by worker u.moment) (firsts attempts) (own_entry line party world (Claim worker attempts))
claim_spares merge line party world w u worker attempts jobs k fits = record {
  ids = λ job. refl;
  specs = λ job. refl;
  sources = λ job. refl;
  origins = λ a there held. quiet_origin world (own_entry line party world (Claim worker attempts)) a refl;
  named = λ a there held was one id has now runs. absurd (runs_none a held was one id (live_attempt w.number a.number (claimed_by worker u.moment was) runs));
  others = λ a there live lacks old one has active t noted named. (waits old one has, named);
}
  where
    -- The job is claimed at a later attempt than those that the worker claimed before.
    runs_none : (a : Attempt) → AttemptHeld world w.number a → (was : Job) → IsIn was (stored_jobs world.store) → was.id ≡ a.job → a.number ≡ was.attempt + 1 → ⊥
    runs_none a held was one id next =
        let b = (whole_of merge world k).body in
        let stored = subst (λ n. job_with n (stored_jobs world.store) ≡ Some was) id (found_job (stored_jobs world.store) was b.sound.job_ids one) in
        let low : a.number ≤ was.attempt = subst (λ o. IfSome o (λ (j : Job). a.number ≤ j.attempt)) stored (claimed_up_to merge world k.stored.replay.specs b w.number a.job a.number held.claimed).1 in
        absurd (omega (arith, low, next))

    waits : (old : Job) → IsIn old (stored_jobs world.store) → IsTrue (contains (firsts attempts) old.id) → IsTrue (is_active old)
    waits old one has =
        let is = each_named world k.stored.replay.specs merge (λ job. IsTrue (is_waiting job)) attempts (whole_of merge world k).body (all_to _ _ attempts (λ a there h. stored_to world (λ job. IsTrue (is_waiting job) × (a.1 ≡ job.attempt + 1)) (λ job. IsTrue (is_waiting job)) a.0 (λ job one. one.0) h) fits.each) old one has in
        waiting_active old.status (is_none old.lease) is

-- The put of a release keeps what a worker's attempts read, and names no further table that a live one noted.
release_spares : (merge : Operator) (line : ℕ) (party : Party) (world : World) (w : LiveWorker) (u : Unrecorded) (worker : ℕ) (attempts : List (ℕ × ℕ)) (jobs : Jobs) → Keeps merge world → ChangeFits merge party world u jobs (Release worker attempts)
    → OwnPut world w to_waiting (firsts attempts) (own_entry line party world (Release worker attempts))
release_spares merge line party world w u worker attempts jobs k fits = record {
  ids = λ job. refl;
  specs = λ job. refl;
  sources = λ job. refl;
  origins = λ a there held. quiet_origin world (own_entry line party world (Release worker attempts)) a refl;
  named = λ a there held was one id has now runs. absurd (cc runs);
  others = λ a there live lacks old one has active t noted named. (runs old one has, named);
}
  where
    -- The job is live at some attempt of the worker.
    AtSome : Job → Type 0
    AtSome job = (n : ℕ) × IsLiveAt worker n job

    runs : (old : Job) → IsIn old (stored_jobs world.store) → IsTrue (contains (firsts attempts) old.id) → IsTrue (is_active old)
    runs old one has =
        let is = each_named world k.stored.replay.specs merge AtSome attempts (whole_of merge world k).body (all_to _ _ attempts (λ a there h. stored_to world (IsLiveAt worker a.1) AtSome a.0 (λ job one. (a.1, one)) h) fits.each) old one has in
        active_if_open old (live_open worker is.0 old is.1)

-- The put of a finish keeps what a worker's attempts read, if no other live attempt noted one of its outputs.
finish_spares : (merge : Operator) (line : ℕ) (party : Party) (world : World) (w : LiveWorker) (u : Unrecorded) (worker id attempt : ℕ) (outputs : List (List ℕ)) (jobs : Jobs) → SparesOwn world w jobs (Finish worker id attempt outputs)
    → OwnPut world w (finished_by worker u outputs) (id ∷ []) (own_entry line party world (Finish worker id attempt outputs))
finish_spares merge line party world w u worker id attempt outputs jobs spares = record {
  ids = λ job. refl;
  specs = λ job. refl;
  sources = λ job. refl;
  origins = λ a there held. quiet_origin world (own_entry line party world (Finish worker id attempt outputs)) a refl;
  named = λ a there held was one same has now runs. absurd (cc runs);
  others = λ a there live lacks old one has active t noted named.
      absurd (apart_at (concat outputs) (noted_tables a) t (all_at _ (live_attempts (stored_jobs world.store) w) a spares (in_filter (is_live (stored_jobs world.store) w.number) w.attempts a there live)
      (λ same. refused (contains (id ∷ []) a.job) lacks (in_contains (id ∷ []) a.job (inl same)))) named noted);
}

-- ---- a heartbeat

-- The put of a heartbeat keeps what the worker's attempts read, if it publishes the contexts of all live ones.
beat_spares : (merge : Operator) (line : ℕ) (party : Party) (world : World) (w : LiveWorker) (u : Unrecorded) (worker : ℕ) (attempts : List (ℕ × ℕ)) → Keeps merge world → party ≡ Worker w.number
    → ChangeFits merge party world u (jobs_after u (Beat worker attempts) (stored_jobs world.store)) (Beat worker attempts)
    → SparesOwn world w (jobs_after u (Beat worker attempts) (stored_jobs world.store)) (Beat worker attempts) → OwnPut world w (beaten_by worker u) (firsts attempts) (own_entry line party world (Beat worker attempts))
beat_spares merge line party world w u worker attempts k own fits spares = record {
  ids = λ job. refl;
  specs = λ job. refl;
  sources = λ job. refl;
  origins = λ a there held. origin_kept world.store.history (own_entry line party world (Beat worker attempts)) a.job a.number (λ n e. later a held n (attempt_named a.job n attempts e));
  named = λ a there held was one id has now runs. left a there was one id has now runs;
  others = λ a there live lacks old one has active t noted named. absurd (refused (contains (firsts attempts) a.job) lacks (spared a there live).0);
}
  where
    spared : (a : Attempt) → IsIn a w.attempts → is_live (stored_jobs world.store) w.number a ≡ true → IsTrue (contains (firsts attempts) a.job) × OfSome (λ job. job.context ≡ Some a.context) (job_with a.job (jobs_after u (Beat worker attempts) (stored_jobs world.store)))
    spared a there live = all_at _ (live_attempts (stored_jobs world.store) w) a spares (in_filter (is_live (stored_jobs world.store) w.number) w.attempts a there live)

    later : (a : Attempt) → AttemptHeld world w.number a → (n : ℕ) → IsIn (a.job, n) attempts → a.number ≤ n
    later a held n there =
        let found = stored_as world (λ job. IsLiveAt worker n job × OfSome (Publishes merge party world job) (u.published a.job)) a.job (all_at _ attempts (a.job, n) fits.each there) in
        let same = live_attempt worker n found.job found.so.0 in
        let low : a.number ≤ found.job.attempt = subst (λ o. IfSome o (λ (j : Job). a.number ≤ j.attempt)) found.stored (claimed_up_to merge world k.stored.replay.specs (whole_of merge world k).body w.number a.job a.number held.claimed).1 in
        omega (arith, low, same)

    -- The job is leased to the worker.
    IsLeased : Job → Type 0
    IsLeased job = IsTrue (is_leased_to w.number job.lease)

    leased : (was : Job) → IsIn was (stored_jobs world.store) → IsTrue (contains (firsts attempts) was.id) → IsLeased was
    leased was one has = each_named world k.stored.replay.specs merge IsLeased attempts (whole_of merge world k).body (all_to _ _ attempts (λ a there h. stored_to world (λ job. IsLiveAt worker a.1 job × OfSome (Publishes merge party world job) (u.published a.0)) IsLeased a.0
        (λ job one. subst (λ m. IsTrue (is_leased_to m job.lease)) (same_worker w.number worker party own fits.by) (second (has_status Running job) (is_leased_to worker job.lease) (a.1 == job.attempt) one.0)) h) fits.each) was one has
      where
        second : (a b c : Bool) → IsTrue (a && b && c) → IsTrue b
        second true true c h = refl
        second true false c h = absurd (cc h)
        second false b c h = absurd (cc h)

    left : (a : Attempt) → IsIn a w.attempts → (was : Job) → IsIn was (stored_jobs world.store) → was.id ≡ a.job → IsTrue (contains (firsts attempts) was.id)
        → job_with a.job (trimmed_jobs (changed_jobs (beaten_by worker u) (firsts attempts) (stored_jobs world.store))) ≡ Some (beaten_by worker u was) → IsTrue (runs_attempt w.number a.number (Some (beaten_by worker u was))) → LeftAs w.number a was (beaten_by worker u was)
    left a there was one id has now runs =
        let run = leased_runs (has_status Running was) (is_leased_to w.number (beaten_by worker u was).lease) (is_leased_to w.number was.lease) (a.number == was.attempt) runs (leased was one has) in
        let stored = subst (λ n. job_with n (stored_jobs world.store) ≡ Some was) id (found_job (stored_jobs world.store) was (whole_of merge world k).body.sound.job_ids one) in
        record {
          runs = run;
          attempt = refl;
          context = subst (OfSome (λ job. job.context ≡ Some a.context)) now (spared a there (ap (runs_attempt w.number a.number) stored ∙ run)).1;
        }

-- ---- puts of the records

pub put_world : (line : ℕ) (party : Party) (world : World) (version : ℕ) (change : RecordChange) (epoch : ℕ) (jobs : Jobs) → (version == records_version world.store.records) ≡ true
    → after_call line party (PutsRecords version change epoch jobs) None world ≡ with_records world (record { version = version + 1; epoch = epoch; jobs = jobs }) (own_entry line party world change)
put_world line party world version change epoch jobs e = by (version == records_version world.store.records) e
  where
    by : (b : Bool) → b ≡ true
        → world_after world (with_entry line party (PutRecords change) (cond b (Done (records_version world.store.records + 1)) (Conflict (records_version world.store.records))) (cond b (record world.store { records = Some (record { version = version + 1; epoch = epoch; jobs = jobs }) }) world.store))
        ≡ with_records world (record { version = version + 1; epoch = epoch; jobs = jobs }) (own_entry line party world change)
    by true e = world_with_records world (record { version = version + 1; epoch = epoch; jobs = jobs }) (own_entry line party world change)
    by false e = absurd (cc e)

-- A worker that fits still fits after its own put of the records, if the change fits and spares its live attempts.
change_holds : (merge : Operator) (line : ℕ) (party : Party) (world : World) (w : LiveWorker) (version : ℕ) (change : RecordChange) (epoch : ℕ) (jobs : Jobs) (u : Unrecorded) → Keeps merge world → party ≡ Worker w.number
    → ChangeFits merge party world u (jobs_after u change (stored_jobs world.store)) change → SparesOwn world w (jobs_after u change (stored_jobs world.store)) change → WorkerHolds merge world w
    → WorkerHolds merge (with_records world (record { version = version; epoch = epoch; jobs = jobs_after u change (stored_jobs world.store) }) (own_entry line party world change)) w
change_holds merge line party world w version (Claim worker attempts) epoch jobs u k own fits spares h =
    holds_own merge world w (claimed_by worker u.moment) (firsts attempts) (own_entry line party world (Claim worker attempts)) version epoch k.stored.replay.specs (whole_of merge world k).body
    (claim_spares merge line party world w u worker attempts (jobs_after u (Claim worker attempts) (stored_jobs world.store)) k fits) h
change_holds merge line party world w version (Beat worker attempts) epoch jobs u k own fits spares h =
    holds_own merge world w (beaten_by worker u) (firsts attempts) (own_entry line party world (Beat worker attempts)) version epoch k.stored.replay.specs (whole_of merge world k).body (beat_spares merge line party world w u worker attempts k own fits spares) h
change_holds merge line party world w version (Finish worker id attempt outputs) epoch jobs u k own fits spares h =
    holds_own merge world w (finished_by worker u outputs) (id ∷ []) (own_entry line party world (Finish worker id attempt outputs)) version epoch k.stored.replay.specs (whole_of merge world k).body
    (finish_spares merge line party world w u worker id attempt outputs (jobs_after u (Finish worker id attempt outputs) (stored_jobs world.store)) spares) h
change_holds merge line party world w version (Release worker attempts) epoch jobs u k own fits spares h =
    holds_own merge world w to_waiting (firsts attempts) (own_entry line party world (Release worker attempts)) version epoch k.stored.replay.specs (whole_of merge world k).body
    (release_spares merge line party world w u worker attempts (jobs_after u (Release worker attempts) (stored_jobs world.store)) k fits) h
change_holds merge line party world w version (RecordsEpoch other) epoch jobs u k own fits spares h = absurd spares
change_holds merge line party world w version (Submit named) epoch jobs u k own fits spares h = absurd spares
change_holds merge line party world w version (Polled change) epoch jobs u k own fits spares h = absurd spares

records_hold : (merge : Operator) (line : ℕ) (party : Party) (world : World) (w : LiveWorker) (version : ℕ) (change : RecordChange) (epoch : ℕ) (jobs : Jobs) → Keeps merge world → party ≡ Worker w.number
    → (version == records_version world.store.records) ≡ true → RecordsFit merge party world change epoch jobs → SparesOwn world w jobs change → WorkerHolds merge world w → WorkerHolds merge (after_call line party (PutsRecords version change epoch jobs) None world) w
records_hold merge line party world w version change epoch jobs k own e fits spares h =
    subst (λ (t : World). WorkerHolds merge t w) (sym (put_world line party world version change epoch jobs e))
    (subst (λ js. WorkerHolds merge (with_records world (record { version = version + 1; epoch = epoch; jobs = js }) (own_entry line party world change)) w) (sym fits.makes_jobs)
    (change_holds merge line party world w (version + 1) change epoch jobs fits.unrecorded k own (subst (λ js. ChangeFits merge party world fits.unrecorded js change) fits.makes_jobs fits.fits) (subst (λ js. SparesOwn world w js change) fits.makes_jobs spares) h))

-- ---- all calls

-- A worker that fits still fits after each lawful call of its own that spares its live attempts.
pub own_calls_keep : (merge : Operator) → OwnCallsKeep merge
own_calls_keep merge (Plain event) line party world w k own lawful is h = plain_holds merge line party world w event _ lawful h
own_calls_keep merge (DrawsJob moment) line party world w k own lawful is h =
    entry_holds merge line party world w (world.store.jobs_drawn + 1) (DrawJob (next_job_id moment world.store)) (Done 0) (mute_event true (DrawJob (next_job_id moment world.store)) refl) h
own_calls_keep merge (DrawsTable moment) line party world w k own lawful is h = holds_drawn merge line party moment world w h
own_calls_keep merge (PutsTable table rows) line party world w k own lawful is h = holds_put merge line party table rows world w k h
own_calls_keep merge ListsTables line party world w k own lawful is h = entry_holds merge line party world w world.store.jobs_drawn (event_of ListsTables world.store) (Done 0) (mute_event true (event_of ListsTables world.store) refl) h
own_calls_keep merge (PutsManifest version change value) line party world w k own lawful is h = absurd is
own_calls_keep merge (DeletesTable table) line party world w k own lawful is h = absurd is
own_calls_keep merge (PutsRecords version change epoch jobs) line party world w k own lawful is h = by (version == records_version world.store.records) refl
  where
    by : (b : Bool) → (version == records_version world.store.records) ≡ b → WorkerHolds merge (after_call line party (PutsRecords version change epoch jobs) None world) w
    by true e = let same = (Decides-eqb version (records_version world.store.records)).0 e in records_hold merge line party world w version change epoch jobs k own e (lawful.1 same) (is same) h
    by false e = holds_refused merge line party world w version change epoch jobs e h
