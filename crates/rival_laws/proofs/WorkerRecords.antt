-- What puts of the records by others leave of a worker's fit.
use Rattle.std.proofs.Common.{◌≡◌, ◌≢◌, refl, sym, ◌∙◌, ap, subst, ℕ, ◌+◌, ◌≤◌, ◌<◌, List, [], ◌∷◌, ◌++◌, cond, Bool, true, false, inl, inr, ◌⊎◌, Option, Some, None, arith}
use Rattle.std.specs.Prelude.{IsTrue, IfSome, ◌==◌, ◌&&◌, not, flat_map, filter, if◌then◌else◌}
use Rattle.std.specs.List.{AllByRecursion, concat}
use Rattle.std.proofs.lemmas.Bool.Decides.{Decides-eqb}
use Rattle.row_model.specs.Fold.{Operator}
use Rattle.fleet_model.specs.Jobs.{JobSpec, Job, Jobs, Context, Status, Submitted, Scheduled, Running, Compacted, Completed, Failed, status_eq, has_status, is_finished, is_active, job_with, contains, changed_jobs, trimmed_jobs}
use Rattle.fleet_model.specs.History.{Party, Worker, Event, PutTable, PutRecords, RecordChange, RecordsEpoch, Submit, Claim, Beat, Finish, Release, Polled, PollChange, Answer, Entry, stood}
use Rattle.fleet_model.specs.Handles.{job_tables, context_tables}
use Rattle.fleet_model.specs.Store.{Records, stored_jobs}
use Rattle.fleet_model.specs.Work.Records.{Unrecorded, firsts, new_job, with_new, claimed_by, beaten_by, finished_by, to_waiting, to_scheduled, to_completed, to_failed, jobs_after}
use Rattle.fleet_model.specs.Work.Parties.{Attempt, LiveWorker, is_leased_to}
use Rattle.fleet_model.specs.Work.Claims.{is_waiting}
use Rattle.fleet_model.specs.Trees.{tables_now}
use Rattle.fleet_model.specs.Past.Claimed.{beaten_in, origin}
use Rattle.step_model.specs.Past.{World}
use Rattle.step_model.specs.Entries.{is_put_of, table_put_in, was_named}
use Rattle.step_model.specs.LawfulTables.{MayUse, IsOwnTable, other_tables}
use Rattle.step_model.specs.LawfulRecords.{ChangeFits, SubmitFits, ClaimFits, BeatFits, FinishFits, ReleaseFits, PollFits, IsStoredAs, AreNew, OfSome, Publishes, IsLiveAt, FinishIsWhole}
use Rattle.step_model.specs.Kept.NamesKept.{IsUpTo}
use Rattle.step_model.specs.Kept.TablesKept.{PutsKept}
use Rattle.step_model.specs.Fits.{AttemptHeld}
use Rattle.step_laws.proofs.Elements.{IsIn, all_at, all_from, all_to, contains_in, contains_no, in_contains, in_append, in_back}
use Rattle.step_laws.proofs.Worlds.{settings_stay_at, ranges_stay_at}
use Rattle.step_laws.proofs.Grown.{drawn_table_grows}
use Rattle.step_laws.proofs.Bodies.{Body}
use Rattle.step_laws.proofs.Beaten.{attempt_named}
use Rattle.step_laws.proofs.OpenJobs.{is_open}
use Rattle.step_laws.proofs.TableBodies.{active_if_open}
use Rattle.step_laws.proofs.RecordsBodies.{with_records, faithful_before_records}
use Rattle.step_laws.proofs.Changed.{on_these, by_these, all_on_these, found_job, job_found, in_trimmed}
use Rattle.step_laws.proofs.NewJobs.{in_new, new_ids}
use Rattle.step_laws.proofs.WorkerPuts.{stored_as, stored_to, each_named, live_open, live_attempt}
use Rattle.rival_laws.proofs.SameParty.{same_party}
use Rattle.rival_laws.proofs.AttemptFacts.{HasNone, submitted_none, origin_kept}
use Rattle.rival_laws.proofs.WorkerFollows.{Follows, from_filter}
use Rattle.rival_laws.proofs.WorkerCalls.{claim_grows, did_grows, held_sources}
use Rattle.step_laws.proofs.OwnTables.{unnamed}
use Rattle.step_laws.proofs.FlushNodes.{refused}
use Rattle.step_laws.proofs.Claims.{scheduled_open}
use Rattle.step_laws.proofs.Quiet.{claimed_up_to}

-- ---- what a put of the records has to leave

-- A job of the new records. If the worker runs it, it was stored so. Its source tables are those of the attempts that the worker claimed.
-- It names no table of the worker's own that is noted for another job.
pub record JobSpares (world : World) (w : LiveWorker) (job : Job) : Type 0 where
  pub running : IsTrue (has_status Running job) → IsTrue (is_leased_to w.number job.lease) → IsIn job (stored_jobs world.store)
  pub sources : (a : Attempt) → IsIn a w.attempts → AttemptHeld world w.number a → job.id ≡ a.job → a.sources ≡ job.source_tables
  pub tables : IsTrue (is_active job) → (id t : ℕ) → IsOwnTable (Worker w.number) world id t → (id ≡ job.id → ⊥) → IsIn t (job_tables job) → ⊥

pub record RecordsSpare (world : World) (w : LiveWorker) (records : Records) (entry : Entry) : Type 0 where
  pub origins : (a : Attempt) → IsIn a w.attempts → AttemptHeld world w.number a → origin world.store.history a.job a.number ≡ origin (world.store.history ++ entry ∷ []) a.job a.number
  pub jobs : AllByRecursion (JobSpares world w) records.jobs

pub from_flat : {A B : Type 0} (f : A → List B) (xs : List A) (y : B) → IsIn y (flat_map f xs) → (x : A) × (IsIn x xs × IsIn y (f x))
from_flat f [] y there = absurd there
from_flat {A} f (x ∷ xs) y there = by (in_append y (f x) (flat_map f xs) there) (λ one. from_flat f xs y one)
  where
    later : (z : A) × (IsIn z xs × IsIn y (f z)) → (z : A) × (IsIn z (x ∷ xs) × IsIn y (f z))
    later found = (found.0, (inr found.1.0, found.1.1))

    by : IsIn y (f x) ⊎ IsIn y (flat_map f xs) → (IsIn y (flat_map f xs) → (z : A) × (IsIn z xs × IsIn y (f z))) → (z : A) × (IsIn z (x ∷ xs) × IsIn y (f z))
    by (inl one) rest = (x, (inl refl, one))
    by (inr one) rest = later (rest one)

-- Records that spare what a worker holds leave all that the worker's fit reads.
pub follows_records : (merge : Operator) (world : World) (specs : ℕ → JobSpec) (w : LiveWorker) (records : Records) (entry : Entry) → Body merge world specs → RecordsSpare world w records entry → Follows world (with_records world records entry) w
follows_records merge world specs w records entry b spare = record {
  grows = λ job number h. claim_grows world.store.history entry w.number job number h;
  faithful = λ others f. faithful_before_records world others records entry f;
  origins = spare.origins;
  settings_found = λ others f a there h s e. settings_stay_at world.store.tables others world.store.history entry a.job a.number s (spare.origins a there h) e;
  ranges_found = λ a there h ranges e. ranges_stay_at world.store.history entry a.job a.number ranges (spare.origins a there h) e;
  held = λ a there held. held;
  rows = λ id put. refl;
  jobs = λ a there h job e runs.
      let found = job_found a.job records.jobs job e in
      let old = (all_at (JobSpares world w) records.jobs job spare.jobs found.there).running (first (has_status Running job) (is_leased_to w.number job.lease) (a.number == job.attempt) runs) (second (has_status Running job) (is_leased_to w.number job.lease) (a.number == job.attempt) runs) in
      subst (λ id. job_with id (stored_jobs world.store) ≡ Some job) found.same (found_job (stored_jobs world.store) job b.sound.job_ids old);
  sources = λ a there h job e. let found = job_found a.job records.jobs job e in (all_at (JobSpares world w) records.jobs job spare.jobs found.there).sources a there h found.same;
  settings = λ job there runs s fit. fit;
  use_still = λ job there runs t may. still job t may;
}
  where
    first : (a b c : Bool) → IsTrue (a && b && c) → IsTrue a
    first true b c h = refl
    first false b c h = absurd (cc h)

    second : (a b c : Bool) → IsTrue (a && b && c) → IsTrue b
    second true true c h = refl
    second true false c h = absurd (cc h)
    second false b c h = absurd (cc h)

    none : (id t : ℕ) → IsOwnTable (Worker w.number) world id t → contains (other_tables id records.jobs) t ≡ false
    none id t own = contains_no (other_tables id records.jobs) t (λ one. at (from_flat job_tables (filter (λ (job : Job). is_active job && not (id == job.id)) records.jobs) t one))
      where
        left : (a b : Bool) → (a && b) ≡ true → IsTrue a
        left true b e = refl
        left false b e = absurd (cc e)

        differs : (j : Job) → (is_active j && not (id == j.id)) ≡ true → id ≡ j.id → ⊥
        differs j e same = by (is_active j) (id == j.id) ((Decides-eqb id j.id).1 same) e
          where
            by : (a c : Bool) → c ≡ true → (a && not c) ≡ true → ⊥
            by true true f e = absurd (cc e)
            by true false f e = absurd (cc f)
            by false c f e = absurd (cc e)

        at : (j : Job) × (IsIn j (filter (λ (job : Job). is_active job && not (id == job.id)) records.jobs) × IsIn t (job_tables j)) → ⊥
        at found =
            let kept = from_filter (λ (job : Job). is_active job && not (id == job.id)) records.jobs found.0 found.1.0 in
            (all_at (JobSpares world w) records.jobs found.0 spare.jobs kept.0).tables (left (is_active found.0) (not (id == found.0.id)) kept.1) id t own (differs found.0 kept.1) found.1.1

    still : (job : Job) (t : ℕ) → MayUse (Worker w.number) world job t → MayUse (Worker w.number) (with_records world records entry) job t
    still job t (inl old) = inl old
    still job t (inr own) = inr (record { drawn = drawn_table_grows world.store.history entry t own.drawn; put = did_grows (is_put_of t) (Worker w.number) world.store.history entry own.put; unused = own.unused; unnamed = none job.id t own })

-- ---- jobs that stay

-- The world, and that the worker makes no put of the records.
pub record Case (merge : Operator) (world : World) (specs : ℕ → JobSpec) (party : Party) (w : LiveWorker) : Type 0 where
  pub body : Body merge world specs
  pub puts : PutsKept world.store.history world.store.tables
  pub other : party ≢ Worker w.number
  pub counted : AllByRecursion (λ a. 0 < a.number) w.attempts

table_said : (t : ℕ) (took : Bool) (event : Event) → is_put_of t event ≡ true → took ≡ true → IsIn t (table_put_in took event)
table_said t true (PutTable other rows) e is = inl (sym ((Decides-eqb t other).0 e))
table_said t false event e is = absurd (cc is)
table_said t true event e is = absurd (cc e)

-- No table is the own one of two parties.
own_once : (merge : Operator) (world : World) (specs : ℕ → JobSpec) (party : Party) (w : LiveWorker) (id other t : ℕ) → Case merge world specs party w → IsOwnTable (Worker w.number) world id t → IsOwnTable party world other t → ⊥
own_once merge world specs party w id other t c mine its =
    c.other (same_party (is_put_of t) (λ (e : Entry). table_put_in (stood e.answer) e.event) (λ a b. a ≢ b) t party (Worker w.number) world.store.history (λ differs. differs refl) (λ e is took. table_said t (stood e.answer) e.event is took) c.puts.once its.put mine.put)

-- A stored job spares what the worker holds.
old_spares : (merge : Operator) (world : World) (specs : ℕ → JobSpec) (party : Party) (w : LiveWorker) (job : Job) → Case merge world specs party w → IsIn job (stored_jobs world.store) → JobSpares world w job
old_spares merge world specs party w job c there = record {
  running = λ runs leased. there;
  sources = λ a one h same. held_sources world w.number a job h (subst (λ id. job_with id (stored_jobs world.store) ≡ Some job) same (found_job (stored_jobs world.store) job c.body.sound.job_ids there));
  tables = λ active id t own differs named. unnamed (Worker w.number) world id t job own there active differs named;
}

-- The attempt that the worker claimed is named, and at most the stored one.
claimed : (merge : Operator) (world : World) (specs : ℕ → JobSpec) (party : Party) (w : LiveWorker) (a : Attempt) → Case merge world specs party w → AttemptHeld world w.number a → IsUpTo world.store.history (stored_jobs world.store) (a.job, a.number)
claimed merge world specs party w a c h = claimed_up_to merge world specs c.body w.number a.job a.number h.claimed

-- The worker claimed no job that is new.
new_unclaimed : (merge : Operator) (world : World) (specs : ℕ → JobSpec) (party : Party) (w : LiveWorker) (a : Attempt) (named : List (ℕ × JobSpec)) (p : ℕ × JobSpec) → Case merge world specs party w → AttemptHeld world w.number a → AreNew world named → IsIn p named → p.0 ≡ a.job → ⊥
new_unclaimed merge world specs party w a named p c h new there same =
    refused (was_named world.store.history p.0) (all_at (λ (q : ℕ × JobSpec). was_named world.store.history q.0 ≡ false) named p new there) (subst (λ id. IsTrue (was_named world.store.history id)) (sym same) (claimed merge world specs party w a c h).0)

new_spares : (merge : Operator) (world : World) (specs : ℕ → JobSpec) (party : Party) (w : LiveWorker) (named : List (ℕ × JobSpec)) (p : ℕ × JobSpec) → Case merge world specs party w → AreNew world named → IsIn p named → JobSpares world w (new_job p)
new_spares merge world specs party w named p c new there = record {
  running = λ runs leased. absurd (cc runs);
  sources = λ a one h same. absurd (new_unclaimed merge world specs party w a named p c h new there same);
  tables = λ active id t own differs none. none;
}

-- ---- jobs that a worker changes

-- How another worker's change goes over a job.
pub record WorkerSpares (world : World) (party : Party) (w : LiveWorker) (f : Job → Job) (job : Job) : Type 0 where
  pub id : (f job).id ≡ job.id
  pub sources : (f job).source_tables ≡ job.source_tables
  pub gone : IsTrue (has_status Running (f job)) → IsTrue (is_leased_to w.number (f job).lease) → ⊥
  pub active : IsTrue (is_active job)
  pub tables : (t : ℕ) → IsIn t (job_tables (f job)) → IsTrue (contains (job_tables job) t) ⊎ IsOwnTable party world job.id t

-- A stored job that another party changes spares what a worker holds, if it gets only tables of that party's own.
changed_spares : (merge : Operator) (world : World) (specs : ℕ → JobSpec) (party : Party) (w : LiveWorker) (f : Job → Job) (job : Job) → Case merge world specs party w → IsIn job (stored_jobs world.store) → WorkerSpares world party w f job → JobSpares world w (f job)
changed_spares merge world specs party w f job c there s = record {
  running = λ runs leased. absurd (s.gone runs leased);
  sources = λ a one h same. old.sources a one h (sym s.id ∙ same) ∙ sym s.sources;
  tables = λ active id t own differs named. clash id t own (λ same. differs (same ∙ sym s.id)) (s.tables t named);
}
  where
    old : JobSpares world w job
    old = old_spares merge world specs party w job c there

    clash : (id t : ℕ) → IsOwnTable (Worker w.number) world id t → (id ≡ job.id → ⊥) → IsTrue (contains (job_tables job) t) ⊎ IsOwnTable party world job.id t → ⊥
    clash id t own differs (inl named) = old.tables s.active id t own differs (contains_in (job_tables job) t named)
    clash id t own differs (inr its) = own_once merge world specs party w id job.id t c own its

worker_spares : (merge : Operator) (world : World) (specs : ℕ → JobSpec) (party : Party) (w : LiveWorker) (f : Job → Job) (these : List ℕ) → Case merge world specs party w
    → ((job : Job) → IsIn job (stored_jobs world.store) → IsTrue (contains these job.id) → WorkerSpares world party w f job) → AllByRecursion (JobSpares world w) (trimmed_jobs (changed_jobs f these (stored_jobs world.store)))
worker_spares merge world specs party w f these c each = all_from (JobSpares world w) (trimmed_jobs (changed_jobs f these (stored_jobs world.store))) (λ job there. all_at (JobSpares world w) (changed_jobs f these (stored_jobs world.store)) job
    (all_on_these (JobSpares world w) f these (stored_jobs world.store) (λ old one. by_these (JobSpares world w) f these old
    (λ named. changed_spares merge world specs party w f old c one (each old one named)) (λ other. old_spares merge world specs party w old c one)))
    (in_trimmed (changed_jobs f these (stored_jobs world.store)) job there))

-- ---- each change of a worker

not_leased : (n m : ℕ) (party : Party) → party ≡ Worker m → party ≢ Worker n → IsTrue (n == m) → ⊥
not_leased n m party by other h = other (by ∙ ap Worker (sym ((Decides-eqb n m).0 h)))

claim_spares : (merge : Operator) (world : World) (specs : ℕ → JobSpec) (party : Party) (w : LiveWorker) (u : Unrecorded) (worker : ℕ) (attempts : List (ℕ × ℕ)) → Case merge world specs party w → ClaimFits party world worker attempts
    → AllByRecursion (JobSpares world w) (jobs_after u (Claim worker attempts) (stored_jobs world.store))
claim_spares merge world specs party w u worker attempts c fits = worker_spares merge world specs party w (claimed_by worker u.moment) (firsts attempts) c (λ job there named. record {
  id = refl;
  sources = refl;
  gone = λ runs leased. not_leased w.number worker party fits.by c.other leased;
  active = active_if_open job (each_named world specs merge (λ j. IsTrue (is_open j.status)) attempts c.body
      (all_to _ _ attempts (λ a one waits. stored_to world (λ j. IsTrue (is_waiting j) × (a.1 ≡ j.attempt + 1)) (λ j. IsTrue (is_open j.status)) a.0 (λ j it. scheduled_open j.status _ it.0) waits) fits.each) job there named);
  tables = λ t one. inl (in_contains (job_tables job) t one);
})

release_spares : (merge : Operator) (world : World) (specs : ℕ → JobSpec) (party : Party) (w : LiveWorker) (u : Unrecorded) (worker : ℕ) (attempts : List (ℕ × ℕ)) → Case merge world specs party w → ReleaseFits party world worker attempts
    → AllByRecursion (JobSpares world w) (jobs_after u (Release worker attempts) (stored_jobs world.store))
release_spares merge world specs party w u worker attempts c fits = worker_spares merge world specs party w to_waiting (firsts attempts) c (λ job there named. record {
  id = refl;
  sources = refl;
  gone = λ runs leased. absurd (cc runs);
  active = active_if_open job (each_named world specs merge (λ j. IsTrue (is_open j.status)) attempts c.body
      (all_to _ _ attempts (λ a one live. stored_to world (IsLiveAt worker a.1) (λ j. IsTrue (is_open j.status)) a.0 (λ j it. live_open worker a.1 j it) live) fits.each) job there named);
  tables = λ t one. inl (in_contains (job_tables job) t one);
})

-- A worker's heartbeats and finishes name tables that the job names, or that are the worker's own.
beat_spares : (merge : Operator) (world : World) (specs : ℕ → JobSpec) (party : Party) (w : LiveWorker) (u : Unrecorded) (worker : ℕ) (attempts : List (ℕ × ℕ)) → Case merge world specs party w → BeatFits merge party world u worker attempts
    → AllByRecursion (JobSpares world w) (jobs_after u (Beat worker attempts) (stored_jobs world.store))
beat_spares merge world specs party w u worker attempts c fits = worker_spares merge world specs party w (beaten_by worker u) (firsts attempts) c (λ job there named. record {
  id = refl;
  sources = refl;
  gone = λ runs leased. not_leased w.number worker party fits.by c.other leased;
  active = active_if_open job (each_named world specs merge (λ j. IsTrue (is_open j.status)) attempts c.body
      (all_to _ _ attempts (λ a one live. stored_to world (λ j. IsLiveAt worker a.1 j × OfSome (Publishes merge party world j) (u.published a.0)) (λ j. IsTrue (is_open j.status)) a.0 (λ j it. live_open worker a.1 j it.0) live) fits.each) job there named);
  tables = λ t one. by job t (each_named world specs merge (λ j. OfSome (Publishes merge party world j) (u.published j.id)) attempts c.body (all_to _ _ attempts (λ a it live. published a live) fits.each) job there named)
      (in_append t (context_tables (u.published job.id)) (concat job.outputs) one);
})
  where
    published : (a : ℕ × ℕ) → IsStoredAs world a.0 (λ j. IsLiveAt worker a.1 j × OfSome (Publishes merge party world j) (u.published a.0)) → IsStoredAs world a.0 (λ j. OfSome (Publishes merge party world j) (u.published j.id))
    published a live =
        let found = stored_as world (λ j. IsLiveAt worker a.1 j × OfSome (Publishes merge party world j) (u.published a.0)) a.0 live in
        subst (OfSome (λ j. OfSome (Publishes merge party world j) (u.published j.id))) (sym found.stored)
        (subst (λ id. OfSome (Publishes merge party world found.job) (u.published id)) (sym (job_found a.0 (stored_jobs world.store) found.job found.stored).same) found.so.1)

    own : (job : Job) (t : ℕ) (o : Option Context) → OfSome (Publishes merge party world job) o → IsIn t (context_tables o) → IsTrue (contains (job_tables job) t) ⊎ IsOwnTable party world job.id t
    own job t None never one = absurd never
    own job t (Some context) publishes one = all_at (MayUse party world job) (context_tables (Some context)) t publishes.own one

    by : (job : Job) (t : ℕ) → OfSome (Publishes merge party world job) (u.published job.id) → IsIn t (context_tables (u.published job.id)) ⊎ IsIn t (concat job.outputs) → IsTrue (contains (job_tables job) t) ⊎ IsOwnTable party world job.id t
    by job t publishes (inl one) = own job t (u.published job.id) publishes one
    by job t publishes (inr one) = inl (in_contains (job_tables job) t (in_back t (context_tables job.context) (concat job.outputs) one))

-- After a lawful finish of another party each job spares what a worker holds.
finish_spares : (merge : Operator) (world : World) (specs : ℕ → JobSpec) (party : Party) (w : LiveWorker) (u : Unrecorded) (worker id attempt : ℕ) (outputs : List (List ℕ)) → Case merge world specs party w → FinishFits merge party world u worker id attempt outputs
    → AllByRecursion (JobSpares world w) (jobs_after u (Finish worker id attempt outputs) (stored_jobs world.store))
finish_spares merge world specs party w u worker id attempt outputs c fits = worker_spares merge world specs party w (finished_by worker u outputs) (id ∷ []) c (λ job there named.
    let f = each_named world specs merge (FinishIsWhole merge party world u worker attempt outputs) ((id, attempt) ∷ []) c.body (fits.finishes, tt) job there named in
    record {
      id = refl;
      sources = refl;
      gone = λ runs leased. absurd (cc runs);
      active = active_if_open job (live_open worker attempt job f.live);
      tables = λ t one. all_at (MayUse party world job) (concat outputs) t f.own one;
    })

submit_spares : (merge : Operator) (world : World) (specs : ℕ → JobSpec) (party : Party) (w : LiveWorker) (u : Unrecorded) (named : List (ℕ × JobSpec)) → Case merge world specs party w → SubmitFits party world named
    → AllByRecursion (JobSpares world w) (jobs_after u (Submit named) (stored_jobs world.store))
submit_spares merge world specs party w u named c fits = all_from (JobSpares world w) (trimmed_jobs (with_new named (stored_jobs world.store))) (λ job there. at job (in_new named (stored_jobs world.store) job (in_trimmed (with_new named (stored_jobs world.store)) job there)))
  where
    at : (job : Job) → ((p : ℕ × JobSpec) × (IsIn p named × (new_job p ≡ job))) ⊎ IsIn job (stored_jobs world.store) → JobSpares world w job
    at job (inl found) = subst (JobSpares world w) found.1.1 (new_spares merge world specs party w named found.0 c fits.new found.1.0)
    at job (inr old) = old_spares merge world specs party w job c old

-- ---- the change of a poll

-- What a poll makes of a job: a Running job stays as it is, an active one was active, and none names more tables. The sources of claimed
-- jobs stay.
record PollFrom (world : World) (w : LiveWorker) (old new : Job) : Type 0 where
  pub id : new.id ≡ old.id
  pub running : IsTrue (has_status Running new) → new ≡ old
  pub sources : (a : Attempt) → AttemptHeld world w.number a → IsIn a w.attempts → old.id ≡ a.job → new.source_tables ≡ old.source_tables
  pub active : IsTrue (is_active new) → IsTrue (is_active old)
  pub tables : (t : ℕ) → IsIn t (job_tables new) → IsIn t (job_tables old)

-- The jobs that a poll starts from.
abbrev based : World → PollChange → Jobs
based world change = with_new change.added (stored_jobs world.store)

-- A job that a poll opens, as it is before.
record Opened (world : World) (change : PollChange) (id : ℕ) : Type 0 where
  pub job : Job
  pub there : IsIn job (based world change)
  pub same : job.id ≡ id
  pub submitted : IsTrue (has_status Submitted job)

opened_before : (party : Party) (world : World) (u : Unrecorded) (change : PollChange) (jobs : Jobs) (id : ℕ) → PollFits party world u change jobs → IsTrue (contains change.scheduled id) → Opened world change id
opened_before party world u change jobs id fits named = by (job_with id (based world change)) refl (all_at _ change.scheduled id fits.opened (contains_in change.scheduled id named))
  where
    by : (o : Option Job) → job_with id (based world change) ≡ o → OfSome (λ job. IsTrue (has_status Submitted job) × (u.tables_of job.spec ≡ tables_now world.store.manifest.trees job.spec)) o → Opened world change id
    by None e never = absurd never
    by (Some job) e is = let found = job_found id (based world change) job e in record { job = job; there = found.there; same = found.same; submitted = is.0 }

pub submitted_active : (s : Status) → IsTrue (status_eq Submitted s) → IsTrue (cond (is_finished s) false true)
submitted_active Submitted h = refl
submitted_active Scheduled h = absurd (cc h)
submitted_active Running h = absurd (cc h)
submitted_active Compacted h = absurd (cc h)
submitted_active Completed h = absurd (cc h)
submitted_active Failed h = absurd (cc h)

pub running_active : (s : Status) → IsTrue (status_eq Running s) → IsTrue (cond (is_finished s) false true)
running_active Running h = refl
running_active Submitted h = absurd (cc h)
running_active Scheduled h = absurd (cc h)
running_active Compacted h = absurd (cc h)
running_active Completed h = absurd (cc h)
running_active Failed h = absurd (cc h)

pub some_same : (a b : Job) → Some a ≡ Some b → a ≡ b
some_same a b e = cc e

-- Two stored jobs with one id are one.
same_job : (merge : Operator) (world : World) (specs : ℕ → JobSpec) (one other : Job) → Body merge world specs → IsIn one (stored_jobs world.store) → IsIn other (stored_jobs world.store) → one.id ≡ other.id → one ≡ other
same_job merge world specs one other b first second same =
    some_same one other (sym (found_job (stored_jobs world.store) one b.sound.job_ids first) ∙ ap (λ id. job_with id (stored_jobs world.store)) same ∙ found_job (stored_jobs world.store) other b.sound.job_ids second)

freed_active : (merge : Operator) (world : World) (specs : ℕ → JobSpec) (party : Party) (u : Unrecorded) (change : PollChange) (jobs : Jobs) (job : Job) → Body merge world specs → PollFits party world u change jobs → IsIn job (based world change) → IsTrue (contains change.freed job.id) → IsTrue (is_active job)
freed_active merge world specs party u change jobs job b fits there named = by (in_new change.added (stored_jobs world.store) job there)
  where
    by : ((p : ℕ × JobSpec) × (IsIn p change.added × (new_job p ≡ job))) ⊎ IsIn job (stored_jobs world.store) → IsTrue (is_active job)
    by (inl new) = subst (λ (j : Job). IsTrue (is_active j)) new.1.1 refl
    by (inr old) =
        let found = stored_as world (λ j. IsTrue (has_status Running j)) job.id (all_at _ change.freed job.id fits.freed (contains_in change.freed job.id named)) in
        let same = some_same found.job job (sym found.stored ∙ found_job (stored_jobs world.store) job b.sound.job_ids old) in
        running_active job.status (subst (λ (j : Job). IsTrue (has_status Running j)) same found.so)

-- A job that a lawful poll opens was active before the poll.
opened_active : (merge : Operator) (world : World) (specs : ℕ → JobSpec) (party : Party) (u : Unrecorded) (change : PollChange) (jobs : Jobs) (job : Job) → Body merge world specs → PollFits party world u change jobs → IsIn job (based world change) → IsTrue (contains change.scheduled job.id) → IsTrue (is_active job)
opened_active merge world specs party u change jobs job b fits there named = by (in_new change.added (stored_jobs world.store) job there)
  where
    before : Opened world change job.id
    before = opened_before party world u change jobs job.id fits named

    at : IsIn job (stored_jobs world.store) → ((p : ℕ × JobSpec) × (IsIn p change.added × (new_job p ≡ before.job))) ⊎ IsIn before.job (stored_jobs world.store) → IsTrue (is_active job)
    at old (inl new) = absurd (new_ids merge world specs change.added b fits.new new.0 job new.1.0 old (ap (λ (j : Job). j.id) new.1.1 ∙ before.same))
    at old (inr too) = submitted_active job.status (subst (λ (j : Job). IsTrue (has_status Submitted j)) (same_job merge world specs before.job job b too old before.same) before.submitted)

    by : ((p : ℕ × JobSpec) × (IsIn p change.added × (new_job p ≡ job))) ⊎ IsIn job (stored_jobs world.store) → IsTrue (is_active job)
    by (inl new) = subst (λ (j : Job). IsTrue (is_active j)) new.1.1 refl
    by (inr old) = at old (in_new change.added (stored_jobs world.store) before.job before.there)

-- A poll opens no job that the worker claimed.
opened_unclaimed : (merge : Operator) (world : World) (specs : ℕ → JobSpec) (party : Party) (w : LiveWorker) (u : Unrecorded) (change : PollChange) (jobs : Jobs) (a : Attempt) → Case merge world specs party w → PollFits party world u change jobs → IsIn a w.attempts → AttemptHeld world w.number a
    → IsTrue (contains change.scheduled a.job) → ⊥
opened_unclaimed merge world specs party w u change jobs a c fits one h named = at (in_new change.added (stored_jobs world.store) before.job before.there)
  where
    before : Opened world change a.job
    before = opened_before party world u change jobs a.job fits named

    at : ((p : ℕ × JobSpec) × (IsIn p change.added × (new_job p ≡ before.job))) ⊎ IsIn before.job (stored_jobs world.store) → ⊥
    at (inl new) = new_unclaimed merge world specs party w a change.added new.0 c h fits.new new.1.0 (ap (λ (j : Job). j.id) new.1.1 ∙ before.same)
    at (inr old) =
        let none : before.job.attempt ≡ 0 = all_at HasNone (stored_jobs world.store) before.job (submitted_none merge world specs c.body) old before.submitted in
        let stored : job_with a.job (stored_jobs world.store) ≡ Some before.job = subst (λ id. job_with id (stored_jobs world.store) ≡ Some before.job) before.same (found_job (stored_jobs world.store) before.job c.body.sound.job_ids old) in
        let low : a.number ≤ before.job.attempt = subst (λ o. IfSome o (λ (j : Job). a.number ≤ j.attempt)) stored (claimed merge world specs party w a c h).1 in
        let first : 0 < a.number = all_at (λ (x : Attempt). 0 < x.number) w.attempts a c.counted one in
        absurd (omega (arith, none, low, first))

-- What a poll makes of one of the jobs that it starts from.
abbrev FromBase : World → LiveWorker → PollChange → Job → Type 0
FromBase world w change new = (old : Job) × (IsIn old (based world change) × PollFrom world w old new)

-- After a lawful poll each job spares what a worker holds.
poll_spares : (merge : Operator) (world : World) (specs : ℕ → JobSpec) (party : Party) (w : LiveWorker) (u : Unrecorded) (change : PollChange) (jobs : Jobs) → Case merge world specs party w → PollFits party world u change jobs
    → AllByRecursion (JobSpares world w) (jobs_after u (Polled change) (stored_jobs world.store))
poll_spares merge world specs party w u change jobs c fits =
    let base = based world change in
    let one = changed_jobs to_waiting change.freed base in
    let two = changed_jobs (to_scheduled u.tables_of) change.scheduled one in
    let three = changed_jobs to_completed change.completed two in
    let four = changed_jobs to_failed change.failed three in
    let start : AllByRecursion (FromBase world w change) base = all_from _ base (λ job there. (job, (there, unchanged job))) in
    let first : AllByRecursion (FromBase world w change) one = all_on_these (FromBase world w change) to_waiting change.freed base (λ job there. wait job (all_at _ base job start there)) in
    let second : AllByRecursion (FromBase world w change) two = all_on_these (FromBase world w change) (to_scheduled u.tables_of) change.scheduled one (λ job there. schedule job (all_at _ one job first there)) in
    let third : AllByRecursion (FromBase world w change) three = all_on_these (FromBase world w change) to_completed change.completed two (λ job there. complete job (all_at _ two job second there)) in
    let fourth : AllByRecursion (FromBase world w change) four = all_on_these (FromBase world w change) to_failed change.failed three (λ job there. fail job (all_at _ three job third there)) in
    all_from (JobSpares world w) (trimmed_jobs four) (λ job there. spares job (all_at (FromBase world w change) four job fourth (in_trimmed four job there)))
  where
    unchanged : (job : Job) → PollFrom world w job job
    unchanged job = record { id = refl; running = λ runs. refl; sources = λ a h one same. refl; active = λ is. is; tables = λ t there. there }

    wait : (job : Job) → FromBase world w change job → FromBase world w change (on_these to_waiting change.freed job)
    wait job from = by_these (FromBase world w change) to_waiting change.freed job
        (λ named. (
          from.0,
          (
            from.1.0,
            record {
              id = from.1.1.id;
              running = λ runs. absurd (cc runs);
              sources = from.1.1.sources;
              active = λ is. freed_active merge world specs party u change jobs from.0 c.body fits from.1.0 (subst (λ id. IsTrue (contains change.freed id)) from.1.1.id named);
              tables = from.1.1.tables;
            },
          ),
        ))
        (λ other. from)

    schedule : (job : Job) → FromBase world w change job → FromBase world w change (on_these (to_scheduled u.tables_of) change.scheduled job)
    schedule job from = by_these (FromBase world w change) (to_scheduled u.tables_of) change.scheduled job
        (λ named. (
          from.0,
          (
            from.1.0,
            record {
              id = from.1.1.id;
              running = λ runs. absurd (cc runs);
              sources = λ a h one same. absurd (opened_unclaimed merge world specs party w u change jobs a c fits one h (subst (λ id. IsTrue (contains change.scheduled id)) (from.1.1.id ∙ same) named));
              active = λ is. opened_active merge world specs party u change jobs from.0 c.body fits from.1.0 (subst (λ id. IsTrue (contains change.scheduled id)) from.1.1.id named);
              tables = λ t there. from.1.1.tables t (in_back t (context_tables job.context) (concat job.outputs) there);
            },
          ),
        ))
        (λ other. from)

    complete : (job : Job) → FromBase world w change job → FromBase world w change (on_these to_completed change.completed job)
    complete job from = by_these (FromBase world w change) to_completed change.completed job
        (λ named. (from.0, (from.1.0, record { id = from.1.1.id; running = λ runs. absurd (cc runs); sources = from.1.1.sources; active = λ is. absurd (cc is); tables = from.1.1.tables })))
        (λ other. from)

    fail : (job : Job) → FromBase world w change job → FromBase world w change (on_these to_failed change.failed job)
    fail job from = by_these (FromBase world w change) to_failed change.failed job
        (λ named. (
          from.0,
          (
            from.1.0,
            record {
              id = from.1.1.id;
              running = λ runs. absurd (cc runs);
              sources = from.1.1.sources;
              active = λ is. absurd (cc is);
              tables = λ t there. from.1.1.tables t (in_back t (context_tables job.context) (concat job.outputs) there);
            },
          ),
        ))
        (λ other. from)

    base_spares : (job : Job) → ((p : ℕ × JobSpec) × (IsIn p change.added × (new_job p ≡ job))) ⊎ IsIn job (stored_jobs world.store) → JobSpares world w job
    base_spares job (inl new) = subst (JobSpares world w) new.1.1 (new_spares merge world specs party w change.added new.0 c fits.new new.1.0)
    base_spares job (inr old) = old_spares merge world specs party w job c old

    spares : (job : Job) → FromBase world w change job → JobSpares world w job
    spares job from =
        let old = base_spares from.0 (in_new change.added (stored_jobs world.store) from.0 from.1.0) in
        let p = from.1.1 in
        record {
          running = λ runs leased. still (sym (p.running runs)) old runs leased;
          sources = λ a one h same. old.sources a one h (sym p.id ∙ same) ∙ sym (p.sources a h one (sym p.id ∙ same));
          tables = λ active id t own differs named. old.tables (p.active active) id t own (λ same. differs (same ∙ sym p.id)) (p.tables t named);
        }
      where
        still : {x : Job} → x ≡ job → JobSpares world w x → IsTrue (has_status Running job) → IsTrue (is_leased_to w.number job.lease) → IsIn job (stored_jobs world.store)
        still same s runs leased = (subst (JobSpares world w) same s).running runs leased

pub change_spares : (merge : Operator) (world : World) (specs : ℕ → JobSpec) (party : Party) (w : LiveWorker) (u : Unrecorded) (change : RecordChange) (jobs : Jobs) → Case merge world specs party w → ChangeFits merge party world u jobs change
    → AllByRecursion (JobSpares world w) (jobs_after u change (stored_jobs world.store))
change_spares merge world specs party w u (RecordsEpoch epoch) jobs c fits = all_from (JobSpares world w) (trimmed_jobs (stored_jobs world.store)) (λ job there. old_spares merge world specs party w job c (in_trimmed (stored_jobs world.store) job there))
change_spares merge world specs party w u (Submit named) jobs c fits = submit_spares merge world specs party w u named c fits
change_spares merge world specs party w u (Claim worker attempts) jobs c fits = claim_spares merge world specs party w u worker attempts c fits
change_spares merge world specs party w u (Beat worker attempts) jobs c fits = beat_spares merge world specs party w u worker attempts c fits
change_spares merge world specs party w u (Finish worker id attempt outputs) jobs c fits = finish_spares merge world specs party w u worker id attempt outputs c fits
change_spares merge world specs party w u (Release worker attempts) jobs c fits = release_spares merge world specs party w u worker attempts c fits
change_spares merge world specs party w u (Polled change) jobs c fits = poll_spares merge world specs party w u change jobs c fits

-- ---- the origin of an attempt

-- A lawful heartbeat names the stored attempt of its job.
pub origins_stay : (merge : Operator) (world : World) (specs : ℕ → JobSpec) (party : Party) (w : LiveWorker) (u : Unrecorded) (change : RecordChange) (jobs : Jobs) (line : ℕ) (answer : Answer) (a : Attempt) → Case merge world specs party w → ChangeFits merge party world u jobs change → AttemptHeld world w.number a
    → origin world.store.history a.job a.number ≡ origin (world.store.history ++ record { line = line; party = party; event = PutRecords change; answer = answer } ∷ []) a.job a.number
origins_stay merge world specs party w u change jobs line answer a c fits h =
    origin_kept world.store.history (record { line = line; party = party; event = PutRecords change; answer = answer }) a.job a.number (λ n e. later change fits (stood answer) n e)
  where
    later : (change : RecordChange) → ChangeFits merge party world u jobs change → (took : Bool) (n : ℕ) → (if took then beaten_in a.job (PutRecords change) else None) ≡ Some n → a.number ≤ n
    later (RecordsEpoch epoch) fits true n e = absurd (cc e)
    later (Submit named) fits true n e = absurd (cc e)
    later (Claim worker attempts) fits true n e = absurd (cc e)
    later (Finish worker id attempt outputs) fits true n e = absurd (cc e)
    later (Release worker attempts) fits true n e = absurd (cc e)
    later (Polled change) fits true n e = absurd (cc e)
    later change fits false n e = absurd (cc e)
    later (Beat worker attempts) fits true n e =
        let found = stored_as world (λ job. IsLiveAt worker n job × OfSome (Publishes merge party world job) (u.published a.job)) a.job
        (all_at (λ b. IsStoredAs world b.0 (λ job. IsLiveAt worker b.1 job × OfSome (Publishes merge party world job) (u.published b.0))) attempts (a.job, n) fits.each (attempt_named a.job n attempts e)) in
        let same = live_attempt worker n found.job found.so.0 in
        let low : a.number ≤ found.job.attempt = subst (λ o. IfSome o (λ (j : Job). a.number ≤ j.attempt)) found.stored (claimed merge world specs party w a c h).1 in
        omega (arith, low, same)
