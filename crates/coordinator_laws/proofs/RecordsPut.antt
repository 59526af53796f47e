-- The put of the records by which a poll ends fits: its jobs are what its change makes of those that it got.
use Rattle.std.proofs.Common.{◌≡◌, refl, sym, ◌∙◌, ap, subst, ℕ, ◌<◌, List, [], ◌∷◌, ◌++◌, cond, Bool, true, false, inl, inr, Some, None, arith}
use Rattle.std.specs.Prelude.{IsTrue, ◌==◌, ◌||◌, ◌&&◌, map, nat_lt, is_some}
use Rattle.std.specs.List.{AllByRecursion}
use Rattle.row_model.specs.Lists.{Pairs}
use Rattle.row_model.specs.Fold.{Operator}
use Rattle.fleet_model.specs.Jobs.{Job, Jobs, Scheduled, has_status, job_with, contains, put_id, in_id_order, trimmed_jobs}
use Rattle.fleet_model.specs.History.{Party, PollChange, Polled}
use Rattle.fleet_model.specs.Store.{Records, stored_jobs, jobs_in, records_epoch}
use Rattle.fleet_model.specs.Trees.{tables_now}
use Rattle.fleet_model.specs.Work.Records.{Unrecorded, no_contexts, firsts, with_new, to_waiting, to_scheduled, to_completed, to_failed, after_poll, jobs_after}
use Rattle.fleet_model.specs.Past.Replay.{epoch_after}
use Rattle.fleet_model.specs.Invariants.JobsFit.{SourcesStand, HoldApart}
use Rattle.fleet_model.specs.Work.PollStates.{PollState}
use Rattle.fleet_model.specs.Work.Polls.{change_of}
use Rattle.step_model.specs.Past.{World}
use Rattle.step_model.specs.Entries.{did_put_epoch}
use Rattle.step_model.specs.LawfulRecords.{OfSome, AreNew, RecordsFit}
use Rattle.step_laws.proofs.Elements.{IsIn, all_at, all_from, all_to, all_append, contains_in}
use Rattle.step_laws.proofs.Changed.{on_these, found_job, pairs_trimmed}
use Rattle.step_laws.proofs.Polls.{poll_on, poll_map, from_map}
use Rattle.step_laws.proofs.TableReplays.{all_trimmed}
use Rattle.commit_laws.proofs.Midway.{only_job}
use Rattle.coordinator_laws.proofs.Marks.{did, did_id, did_spec, marks_of, is_completed, is_failed, done_to, done_id, done_spec}
use Rattle.coordinator_laws.proofs.Jobs.{Among, JobsReached, IsRunning, IsSubmitted, IsCompacted, MayEnd, submitted_ends, compacted_ends}
use Rattle.coordinator_laws.proofs.Stages.{jobs_rise}
use Rattle.course_laws.proofs.Sweeps.{all_ordered}

-- ---- ids in order

-- Ids with one more put in order have those that they had, and that one.
contains_put : (id : ℕ) (xs : List ℕ) (n : ℕ) → contains (put_id id xs) n ≡ (contains xs n || (id == n))
contains_put id [] n = by (id == n)
  where
    by : (b : Bool) → cond b true false ≡ b
    by true = refl
    by false = refl
contains_put id (x ∷ xs) n = by (nat_lt id x) (contains_put id xs n)
  where
    front : (a b c : Bool) → cond a true (cond b true c) ≡ (cond b true c || a)
    front true true c = refl
    front true false true = refl
    front true false false = refl
    front false true c = refl
    front false false true = refl
    front false false false = refl

    back : (b c d : Bool) (a : Bool) → d ≡ (c || a) → cond b true d ≡ (cond b true c || a)
    back true c d a e = refl
    back false c d a e = e

    by : (b : Bool) → contains (put_id id xs) n ≡ (contains xs n || (id == n)) → contains (cond b (id ∷ x ∷ xs) (x ∷ put_id id xs)) n ≡ (cond (x == n) true (contains xs n) || (id == n))
    by true e = front (id == n) (x == n) (contains xs n)
    by false e = back (x == n) (contains xs n) (contains (put_id id xs) n) (id == n) e

contains_order : (xs : List ℕ) (n : ℕ) → contains (in_id_order xs) n ≡ contains xs n
contains_order [] n = refl
contains_order (x ∷ xs) n = contains_put x (in_id_order xs) n ∙ ap (λ b. b || (x == n)) (contains_order xs n) ∙ turned (contains xs n) (x == n)
  where
    turned : (a b : Bool) → (a || b) ≡ cond b true a
    turned true true = refl
    turned true false = refl
    turned false true = refl
    turned false false = refl

contains_both : (xs ys : List ℕ) (n : ℕ) → contains (xs ++ ys) n ≡ (contains xs n || contains ys n)
contains_both [] ys n = refl
contains_both (x ∷ xs) ys n = by (x == n) (contains_both xs ys n)
  where
    by : (b : Bool) → contains (xs ++ ys) n ≡ (contains xs n || contains ys n) → cond b true (contains (xs ++ ys) n) ≡ (cond b true (contains xs n) || contains ys n)
    by true e = refl
    by false e = e

-- ---- what the change makes of a job

-- The change of a poll does with a job what the marks say.
poll_as : (u : Unrecorded) (change : PollChange) (job : Job)
    → poll_on u change job ≡ done_to (contains change.freed job.id) (contains change.scheduled job.id) (contains change.completed job.id) (contains change.failed job.id) (u.tables_of job.spec) job
poll_as u change job = third ∙ (λ i. cond (contains change.failed (ended_id i)) (to_failed ended) ended)
  where
    freed : Job
    freed = cond (contains change.freed job.id) (to_waiting job) job

    opened : Job
    opened = cond (contains change.scheduled job.id) (to_scheduled (λ spec. u.tables_of job.spec) freed) freed

    ended : Job
    ended = cond (contains change.completed job.id) (to_completed opened) opened

    freed_id : freed.id ≡ job.id
    freed_id = done_id (contains change.freed job.id) false false false [] job

    freed_spec : freed.spec ≡ job.spec
    freed_spec = done_spec (contains change.freed job.id) false false false [] job

    opened_id : opened.id ≡ job.id
    opened_id = done_id (contains change.freed job.id) (contains change.scheduled job.id) false false (u.tables_of job.spec) job

    ended_id : ended.id ≡ job.id
    ended_id = done_id (contains change.freed job.id) (contains change.scheduled job.id) (contains change.completed job.id) false (u.tables_of job.spec) job

    first : on_these (to_scheduled u.tables_of) change.scheduled freed ≡ opened
    first = λ i. cond (contains change.scheduled (freed_id i)) (to_scheduled (λ spec. u.tables_of (freed_spec i)) freed) freed

    second : on_these to_completed change.completed (on_these (to_scheduled u.tables_of) change.scheduled freed) ≡ ended
    second = ap (on_these to_completed change.completed) first ∙ (λ i. cond (contains change.completed (opened_id i)) (to_completed opened) opened)

    third : poll_on u change job ≡ on_these to_failed change.failed ended
    third = ap (on_these to_failed change.failed) second

opened_tables : (a c d : Bool) (tables : List ℕ) (job : Job) → (done_to a true c d tables job).source_tables ≡ tables
opened_tables true true true tables job = refl
opened_tables true true false tables job = refl
opened_tables true false true tables job = refl
opened_tables true false false tables job = refl
opened_tables false true true tables job = refl
opened_tables false true false tables job = refl
opened_tables false false true tables job = refl
opened_tables false false false tables job = refl

-- ---- the put

pub pairs_by : (R : Job → Job → Type 0) (jobs : Jobs) → Pairs (λ a b. a.id < b.id) jobs → ((x y : Job) → IsIn x jobs → IsIn y jobs → (x.id ≡ y.id → ⊥) → R x y) → Pairs R jobs
pairs_by R [] rise h = tt
pairs_by R (job ∷ jobs) rise h =
    (all_to _ _ jobs (λ other there low. h job other (inl refl) (inr there) (λ same. absurd (omega (arith, low, same)))) rise.0, pairs_by R jobs rise.1 (λ x y one other differs. h x y (inr one) (inr other) differs))

-- What is so as the poll puts the records: they are those that it got, and the sources of the jobs that it opens stand.
pub record AtPut (party : Party) (u : World) (got : Records) (p : PollState) : Type 0 where
  pub reached : JobsReached got.jobs p
  pub stored : u.store.records ≡ Some got
  pub by : IsTrue (did_put_epoch party u.store.history got.epoch)
  pub opened : AllByRecursion (Among (λ job. IsTrue (has_status Scheduled job) × SourcesStand u.store.manifest.trees job) p.jobs) p.opened
  pub new : AreNew u p.added

-- What the history does not record of the put.
abbrev pub put_at : World → Unrecorded
put_at u = record { moment = 0; published = no_contexts; kept_cut = None; tables_of = tables_now u.store.manifest.trees }

-- The jobs of a poll are what the change that it puts makes of the jobs that it got.
jobs_made : (party : Party) (u : World) (got : Records) (p : PollState) → AtPut party u got p → p.jobs ≡ after_poll (put_at u) (change_of p) got.jobs
jobs_made party u got p a = a.reached.are ∙ each (with_new p.added got.jobs) (λ job there. there) ∙ sym (poll_map (put_at u) (change_of p) (with_new p.added got.jobs))
  where
    same_tables : (job : Job) → IsIn job (with_new p.added got.jobs) → (b : Bool) → contains p.opened job.id ≡ b
        → done_to (contains p.freed job.id) b (is_completed p job.id) (is_failed p job.id) (a.reached.tables job.id) job ≡ done_to (contains p.freed job.id) b (is_completed p job.id) (is_failed p job.id) (tables_now u.store.manifest.trees job.spec) job
    same_tables job there false e = refl
    same_tables job there true e = ap (λ tables. done_to (contains p.freed job.id) true (is_completed p job.id) (is_failed p job.id) tables job) (sym is)
      where
        found : Among (λ job. IsTrue (has_status Scheduled job) × SourcesStand u.store.manifest.trees job) p.jobs job.id
        found = all_at (Among (λ job. IsTrue (has_status Scheduled job) × SourcesStand u.store.manifest.trees job) p.jobs) p.opened job.id a.opened (contains_in p.opened job.id e)

        from : (x : Job) × (IsIn x (with_new p.added got.jobs) × (did (marks_of p a.reached.tables) x ≡ found.0))
        from = from_map (did (marks_of p a.reached.tables)) (with_new p.added got.jobs) found.0 (subst (IsIn found.0) a.reached.are found.1.0)

        own : did (marks_of p a.reached.tables) job ≡ found.0
        own = ap (did (marks_of p a.reached.tables)) (only_job (with_new p.added got.jobs) job from.0 a.reached.rise there from.1.0
            (sym found.1.1.0 ∙ ap (λ (j : Job). j.id) (sym from.1.1) ∙ did_id (marks_of p a.reached.tables) from.0)) ∙ from.1.1

        recorded : found.0.source_tables ≡ a.reached.tables job.id
        recorded = ap (λ (j : Job). j.source_tables) (sym own) ∙ ap (λ b. (done_to (contains p.freed job.id) b (is_completed p job.id) (is_failed p job.id) (a.reached.tables job.id) job).source_tables) e
            ∙ opened_tables (contains p.freed job.id) (is_completed p job.id) (is_failed p job.id) (a.reached.tables job.id) job

        is : tables_now u.store.manifest.trees job.spec ≡ a.reached.tables job.id
        is = ap (tables_now u.store.manifest.trees) (sym (did_spec (marks_of p a.reached.tables) job) ∙ ap (λ (j : Job). j.spec) own) ∙ found.1.1.1.1.source_tables ∙ recorded

    completed : (n : ℕ) → is_completed p n ≡ contains (in_id_order (p.done ++ p.moved ++ p.drained)) n
    completed n = sym (contains_order (p.done ++ p.moved ++ p.drained) n ∙ contains_both (p.done ++ p.moved) p.drained n ∙ ap (λ b. b || contains p.drained n) (contains_both p.done p.moved n) ∙ joined (contains p.done n) (contains p.moved n) (contains p.drained n))
      where
        joined : (x y z : Bool) → ((x || y) || z) ≡ (x || (y || z))
        joined true y z = refl
        joined false y z = refl

    failed : (n : ℕ) → is_failed p n ≡ contains (in_id_order (firsts p.lost ++ firsts p.refused)) n
    failed n = sym (contains_order (firsts p.lost ++ firsts p.refused) n ∙ contains_both (firsts p.lost) (firsts p.refused) n)

    one : (job : Job) → IsIn job (with_new p.added got.jobs) → did (marks_of p a.reached.tables) job ≡ poll_on (put_at u) (change_of p) job
    one job there = same_tables job there (contains p.opened job.id) refl
        ∙ (λ i. done_to (contains p.freed job.id) (contains p.opened job.id) (completed job.id i) (failed job.id i) (tables_now u.store.manifest.trees job.spec) job)
        ∙ sym (poll_as (put_at u) (change_of p) job)

    each : (jobs : Jobs) → ((job : Job) → IsIn job jobs → IsIn job (with_new p.added got.jobs)) → map (did (marks_of p a.reached.tables)) jobs ≡ map (poll_on (put_at u) (change_of p)) jobs
    each jobs all = all_same jobs (λ job there. one job (all job there))
      where
        all_same : (js : Jobs) → ((job : Job) → IsIn job js → did (marks_of p a.reached.tables) job ≡ poll_on (put_at u) (change_of p) job) → map (did (marks_of p a.reached.tables)) js ≡ map (poll_on (put_at u) (change_of p)) js
        all_same [] h = refl
        all_same (j ∷ js) h = let first = h j (inl refl) in let rest = all_same js (λ x there. h x (inr there)) in λ i. first i ∷ rest i

-- A job among those with rising ids is found by its id.
of_among : (P : Job → Type 0) (jobs : Jobs) (id : ℕ) → Pairs (λ a b. a.id < b.id) jobs → Among P jobs id → OfSome P (job_with id jobs)
of_among P jobs id rise found = subst (OfSome P) (sym (ap (λ n. job_with n jobs) (sym found.1.1.0) ∙ found_job jobs found.0 rise found.1.0)) found.1.1.1

-- The put of the records that ends a poll fits, if they still are those that it got and opened jobs' sources stand.
pub put_fits : (merge : Operator) (party : Party) (u : World) (got : Records) (p : PollState) → Pairs (λ a b. a.id < b.id) got.jobs → AtPut party u got p → RecordsFit merge party u (Polled (change_of p)) got.epoch (trimmed_jobs p.jobs)
put_fits merge party u got p rise a = record {
  there = subst (λ o. IsTrue (is_some o)) (sym a.stored) refl;
  unrecorded = put_at u;
  makes_jobs = ap trimmed_jobs (jobs_made party u got p a) ∙ ap (λ o. jobs_after (put_at u) (Polled (change_of p)) (jobs_in o)) (sym a.stored);
  makes_epoch = ap (epoch_after (Polled (change_of p))) (sym a.stored);
  fits = record {
    by = subst (λ o. IsTrue (did_put_epoch party u.store.history (records_epoch o))) (sym a.stored) a.by;
    new = a.new;
    freed = all_to _ _ p.freed (λ id there found. subst (λ o. OfSome IsRunning (job_with id (jobs_in o))) (sym a.stored) (of_among IsRunning got.jobs id rise found)) a.reached.freed;
    opened = all_to _ _ p.opened (λ id there found. in_base (λ job. IsSubmitted job × (tables_now u.store.manifest.trees job.spec ≡ tables_now u.store.manifest.trees job.spec)) id (found.0, (found.1.0, (found.1.1.0, (found.1.1.1, refl))))) a.reached.opened;
    ended = all_append _ (in_id_order (p.done ++ p.moved ++ p.drained)) (in_id_order (firsts p.lost ++ firsts p.refused))
        (all_ordered _ (p.done ++ p.moved ++ p.drained) (all_append _ (p.done ++ p.moved) p.drained (all_append _ p.done p.moved (compacted p.done a.reached.done) (submitted p.moved a.reached.moved)) (submitted p.drained a.reached.drained)))
        (all_ordered _ (firsts p.lost ++ firsts p.refused) (all_append _ (firsts p.lost) (firsts p.refused) (compacted (firsts p.lost) a.reached.lost) (submitted (firsts p.refused) a.reached.refused)));
    stand = all_trimmed (λ job. IsTrue (contains p.opened job.id && has_status Scheduled job) → SourcesStand u.store.manifest.trees job) p.jobs (all_from _ p.jobs (λ job there named. stands job there (first (contains p.opened job.id) (has_status Scheduled job) named)));
    apart = pairs_trimmed HoldApart p.jobs (pairs_by HoldApart p.jobs (jobs_rise got.jobs p a.reached) a.reached.apart);
  };
}
  where
    in_base : (P : Job → Type 0) (id : ℕ) → Among P (with_new p.added got.jobs) id → OfSome P (job_with id (with_new p.added (stored_jobs u.store)))
    in_base P id found = subst (λ o. OfSome P (job_with id (with_new p.added (jobs_in o)))) (sym a.stored) (of_among P (with_new p.added got.jobs) id a.reached.rise found)

    compacted : (ids : List ℕ) → AllByRecursion (Among IsCompacted (with_new p.added got.jobs)) ids → AllByRecursion (λ id. OfSome MayEnd (job_with id (with_new p.added (stored_jobs u.store)))) ids
    compacted ids h = all_to _ _ ids (λ id there found. in_base MayEnd id (found.0, (found.1.0, (found.1.1.0, compacted_ends found.0 found.1.1.1)))) h

    submitted : (ids : List ℕ) → AllByRecursion (Among IsSubmitted (with_new p.added got.jobs)) ids → AllByRecursion (λ id. OfSome MayEnd (job_with id (with_new p.added (stored_jobs u.store)))) ids
    submitted ids h = all_to _ _ ids (λ id there found. in_base MayEnd id (found.0, (found.1.0, (found.1.1.0, submitted_ends found.0 found.1.1.1)))) h

    first : (x y : Bool) → IsTrue (x && y) → IsTrue x
    first true y h = refl
    first false y h = absurd (cc h)

    stands : (job : Job) → IsIn job p.jobs → IsTrue (contains p.opened job.id) → SourcesStand u.store.manifest.trees job
    stands job there named =
        let found = all_at (Among (λ job. IsTrue (has_status Scheduled job) × SourcesStand u.store.manifest.trees job) p.jobs) p.opened job.id a.opened (contains_in p.opened job.id named) in
        subst (SourcesStand u.store.manifest.trees) (only_job p.jobs found.0 job (jobs_rise got.jobs p a.reached) found.1.0 there found.1.1.0) found.1.1.1.1
