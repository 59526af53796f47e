-- Each job is finished once and committed once: each lawful call keeps this so.
use Rattle.std.proofs.Common.{◌≡◌, ◌≢◌, refl, sym, ◌∙◌, ap, subst, ℕ, List, [], ◌∷◌, ◌++◌, Bool, true, false, inl, inr, ◌⊎◌, Option, Some, None, append-nil, append_assoc}
use Rattle.std.specs.Prelude.{◌||◌, IsTrue, filter, ⊤}
use Rattle.std.specs.List.{AllByRecursion}
use Rattle.row_model.specs.Fold.{Operator}
use Rattle.fleet_model.specs.Jobs.{JobSpec, Job, Jobs, Status, Submitted, Scheduled, Running, Compacted, Completed, Failed, status_eq, has_status, is_finished, contains, changed_jobs, trimmed_jobs, job_with}
use Rattle.fleet_model.specs.History.{Party, Event, PutManifest, PutRecords, ManifestChange, RecordChange, RecordsEpoch, Submit, Claim, Beat, Finish, Release, Polled, PollChange, Answer, Entry, stood}
use Rattle.fleet_model.specs.Past.Replay.{plain_objects}
use Rattle.fleet_model.specs.Store.{stored_jobs, fresh_store}
use Rattle.fleet_model.specs.Work.Records.{Unrecorded, firsts, new_job, with_new, claimed_by, beaten_by, finished_by, to_waiting, to_scheduled, to_completed, to_failed, jobs_after}
use Rattle.step_model.specs.Past.{World}
use Rattle.step_model.specs.Entries.{was_named, attempts_in}
use Rattle.step_model.specs.Rivals.{Caller}
use Rattle.step_model.specs.Kept.Keeps.{Keeps}
use Rattle.step_model.specs.Kept.NamesKept.{IsUpTo}
use Rattle.step_model.specs.LawfulRecords.{OfSome, IsLiveAt, AreNew, ChangeFits, PollFits, may_end}
use Rattle.step_laws.proofs.Elements.{IsIn, all_at, all_from, all_to, all_flat, in_front, in_append, contains_in, in_contains, pairs_push, flat_push}
use Rattle.step_laws.proofs.Changed.{in_trimmed, job_found, by_these, all_on_these}
use Rattle.step_laws.proofs.Mute.{IsMute}
use Rattle.step_laws.proofs.NewJobs.{in_new}
use Rattle.commit_laws.proofs.Stretches.{pairs_append}
use Rattle.rival_laws.proofs.JobsMerged.{and_first}
use Rattle.rival_laws.proofs.Outcomes.{Outcome, Notes, Deletes, NewTable, NewManifest, NewRecords, outcome}
use Rattle.course_laws.specs.Histories.{finished_in, completed_in, finished_jobs, committed_from, committed_jobs}
use Rattle.course_laws.proofs.Calls.{pairs_filter, filtered, all_map}
use Rattle.course_laws.proofs.Histories.{histories_count}
use Rattle.line_laws.specs.Counts.{is_past_work, IsCounted, AreCounted, JobsCount}
use Rattle.line_laws.specs.CountsOnce.{JobsCountOnce}
use Rattle.line_laws.proofs.Courses.{CallsHold}

-- ---- what the history counts

-- The lists after one more entry.
as_pushed : (history : List Entry) (entry : Entry) (finished committed : List ℕ) (jobs : Jobs) → finished_jobs history ++ finished_in (stood entry.answer) entry.event ≡ finished
    → committed_jobs history ++ filter (contains (completed_in (stood entry.answer) entry.event)) (finished_jobs history) ≡ committed → AreCounted finished committed jobs
    → AreCounted (finished_jobs (history ++ entry ∷ [])) (committed_jobs (history ++ entry ∷ [])) jobs
as_pushed history entry finished committed jobs f c counted =
    let now = filter (contains (completed_in (stood entry.answer) entry.event)) (finished_jobs history) in
    let fs : finished_jobs (history ++ entry ∷ []) ≡ finished = flat_push (λ (e : Entry). finished_in (stood e.answer) e.event) history entry ∙ f in
    let cs : committed_jobs (history ++ entry ∷ []) ≡ committed = histories_count.commits history (entry ∷ []) ∙ ap (λ (ids : List ℕ). committed_jobs history ++ ids) (append-nil now) ∙ c in
    subst (λ (ids : List ℕ). AreCounted ids (committed_jobs (history ++ entry ∷ [])) jobs) (sym fs) (subst (λ (ids : List ℕ). AreCounted finished ids jobs) (sym cs) counted)

none_kept : (ids : List ℕ) → filter (contains []) ids ≡ []
none_kept [] = refl
none_kept (id ∷ ids) = none_kept ids

-- An entry that finishes and completes nothing.
quietly : (history : List Entry) (entry : Entry) (jobs : Jobs) → finished_in (stood entry.answer) entry.event ≡ [] → completed_in (stood entry.answer) entry.event ≡ [] → AreCounted (finished_jobs history) (committed_jobs history) jobs
    → AreCounted (finished_jobs (history ++ entry ∷ [])) (committed_jobs (history ++ entry ∷ [])) jobs
quietly history entry jobs f c counted = as_pushed history entry (finished_jobs history) (committed_jobs history) jobs
    (ap (λ (ids : List ℕ). finished_jobs history ++ ids) f ∙ append-nil (finished_jobs history))
    (ap (λ (ids : List ℕ). committed_jobs history ++ ids) (ap (λ (ids : List ℕ). filter (contains ids) (finished_jobs history)) c ∙ none_kept (finished_jobs history)) ∙ append-nil (committed_jobs history)) counted

-- An entry that changes no object does so.
mute_finishes : (took : Bool) (event : Event) → IsMute took event → (finished_in took event ≡ []) × (completed_in took event ≡ [])
mute_finishes false event mute = (refl, refl)
mute_finishes true (PutRecords change) mute = let never = mute.objects [] (λ n. record { segment = []; sources = []; destination = None }) (plain_objects fresh_store) in absurd (cc (ap (λ o. o.records) never))
mute_finishes true event mute = (refl, refl)

in_kept : (p : ℕ → Bool) (ids : List ℕ) (id : ℕ) → IsIn id (filter p ids) → IsIn id ids × (p id ≡ true)
in_kept p ids id there = all_at (λ x. IsIn x ids × (p x ≡ true)) (filter p ids) id (filtered p ids) there

-- Each committed job was finished.
committed_in : (finished : List ℕ) (entries : List Entry) (id : ℕ) → IsIn id (committed_from finished entries) → IsIn id (finished ++ finished_jobs entries)
committed_in finished [] id there = absurd there
committed_in finished (entry ∷ entries) id there = by (in_append id now (committed_from (finished ++ more) entries) there) (λ rest. committed_in (finished ++ more) entries id rest)
  where
    more : List ℕ
    more = finished_in (stood entry.answer) entry.event

    now : List ℕ
    now = filter (contains (completed_in (stood entry.answer) entry.event)) finished

    by : IsIn id now ⊎ IsIn id (committed_from (finished ++ more) entries) → (IsIn id (committed_from (finished ++ more) entries) → IsIn id ((finished ++ more) ++ finished_jobs entries)) → IsIn id (finished ++ (more ++ finished_jobs entries))
    by (inl here) further = in_front id finished (more ++ finished_jobs entries) (in_kept _ finished id here).0
    by (inr rest) further = subst (IsIn id) (append_assoc finished more (finished_jobs entries)) (further rest)

was_finished : (history : List Entry) (id : ℕ) → IsTrue (contains (committed_jobs history) id) → IsTrue (contains (finished_jobs history) id)
was_finished history id there = in_contains (finished_jobs history) id (committed_in [] history id (contains_in (committed_jobs history) id there))

-- Each finished job was named.
finished_named : (merge : Operator) (world : World) → Keeps merge world → AllByRecursion (λ id. IsTrue (was_named world.store.history id)) (finished_jobs world.store.history)
finished_named merge world kept =
    all_flat (λ id. IsTrue (was_named world.store.history id)) (λ (entry : Entry). finished_in (stood entry.answer) entry.event) world.store.history
    (all_to _ _ world.store.history (λ entry there h. by (stood entry.answer) entry.event h) kept.facts.attempts.up_to)
  where
    by_change : (change : RecordChange) → AllByRecursion (IsUpTo world.store.history (stored_jobs world.store)) (attempts_in (PutRecords change)) → AllByRecursion (λ id. IsTrue (was_named world.store.history id)) (finished_in true (PutRecords change))
    by_change (Finish worker id attempt outputs) h = (h.0.0, tt)
    by_change change h = tt

    by : (took : Bool) (event : Event) → (IsTrue took → AllByRecursion (IsUpTo world.store.history (stored_jobs world.store)) (attempts_in event)) → AllByRecursion (λ id. IsTrue (was_named world.store.history id)) (finished_in took event)
    by false event h = tt
    by true (PutRecords change) h = by_change change (h refl)
    by true event h = tt

-- ---- statuses

-- A job whose status is neither Compacted nor a finished one is not past its work.
open_status : (a : Status) (job : Job) → status_eq a job.status ≡ true → (status_eq Compacted a || is_finished a) ≡ false → is_past_work job ≡ false
open_status a job is other = by a job.status is other
  where
    by : (a s : Status) → status_eq a s ≡ true → (status_eq Compacted a || is_finished a) ≡ false → (status_eq Compacted s || is_finished s) ≡ false
    by Submitted Submitted e o = refl
    by Scheduled Scheduled e o = refl
    by Running Running e o = refl
    by Compacted Compacted e o = absurd (cc o)
    by Completed Completed e o = absurd (cc o)
    by Failed Failed e o = absurd (cc o)
    by a s e o = absurd (cc e)

runs_open : (worker attempt : ℕ) (job : Job) → IsLiveAt worker attempt job → is_past_work job ≡ false
runs_open worker attempt job live = open_status Running job (and_first (has_status Running job) _ (and_first _ _ live)) refl

-- A job that a poll may end is not over.
end_open : (job : Job) → may_end job ≡ true → is_finished job.status ≡ true → ⊥
end_open job may over = by job.status may over
  where
    by : (s : Status) → (status_eq Submitted s || status_eq Compacted s) ≡ true → is_finished s ≡ true → ⊥
    by Submitted e o = cc o
    by Scheduled e o = cc o
    by Running e o = cc o
    by Compacted e o = cc o
    by Completed e o = cc e
    by Failed e o = cc e

of_some : (P Q : Job → Type 0) (o : Option Job) → ((job : Job) → P job → Q job) → OfSome P o → OfSome Q o
of_some P Q None to h = h
of_some P Q (Some job) to h = to job h

-- ---- changes of jobs

-- These jobs fit what was finished and committed, and each committed job was finished.
record Fit (finished committed : List ℕ) (jobs : Jobs) : Type 0 where
  each : AllByRecursion (IsCounted finished committed) jobs
  among : (id : ℕ) → IsTrue (contains committed id) → IsTrue (contains finished id)

-- A job whose stored record is open was not finished.
unfinished : (finished committed : List ℕ) (jobs : Jobs) (id : ℕ) → AllByRecursion (IsCounted finished committed) jobs → OfSome (λ job. is_past_work job ≡ false) (job_with id jobs) → IsTrue (contains finished id) → ⊥
unfinished finished committed jobs id each free fin = by (job_with id jobs) refl free
  where
    by : (o : Option Job) → job_with id jobs ≡ o → OfSome (λ job. is_past_work job ≡ false) o → ⊥
    by None e h = h
    by (Some job) e h =
        let found = job_found id jobs job e in
        let past = (all_at (IsCounted finished committed) jobs job each found.there).0 (subst (λ (n : ℕ). IsTrue (contains finished n)) (sym found.same) fin) in
        cc (past, h)

-- A change of jobs that were not finished.
changed_fit : (finished committed : List ℕ) (f : Job → Job) (these : List ℕ) (jobs : Jobs) → ((job : Job) → (f job).id ≡ job.id) → ((id : ℕ) → IsTrue (contains these id) → IsTrue (contains finished id) → ⊥) → Fit finished committed jobs
    → Fit finished committed (changed_jobs f these jobs)
changed_fit finished committed f these jobs same free fit = record {
  each = all_on_these (IsCounted finished committed) f these jobs (λ job there. by_these (IsCounted finished committed) f these job
      (λ named. (λ fin. absurd (free job.id named (subst (λ (n : ℕ). IsTrue (contains finished n)) (same job) fin)), λ put. absurd (free job.id named (subst (λ (n : ℕ). IsTrue (contains finished n)) (same job) (fit.among (f job).id put)))))
      (λ unnamed. all_at (IsCounted finished committed) jobs job fit.each there));
  among = fit.among;
}

-- New jobs were not finished.
new_fit : (finished committed : List ℕ) (named : List (ℕ × JobSpec)) (jobs : Jobs) → ((p : ℕ × JobSpec) → IsIn p named → IsTrue (contains finished p.0) → ⊥) → Fit finished committed jobs → Fit finished committed (with_new named jobs)
new_fit finished committed named jobs new fit = record {
  each = all_from (IsCounted finished committed) (with_new named jobs) (λ job there. by job (in_new named jobs job there));
  among = fit.among;
}
  where
    by : (job : Job) → ((p : ℕ × JobSpec) × (IsIn p named × (new_job p ≡ job))) ⊎ IsIn job jobs → IsCounted finished committed job
    by job (inl (p, (there, same))) = subst (IsCounted finished committed) same (λ fin. absurd (new p there fin), λ put. absurd (new p there (fit.among p.0 put)))
    by job (inr there) = all_at (IsCounted finished committed) jobs job fit.each there

trimmed_each : (finished committed : List ℕ) (jobs : Jobs) → AllByRecursion (IsCounted finished committed) jobs → AllByRecursion (IsCounted finished committed) (trimmed_jobs jobs)
trimmed_each finished committed jobs each = all_from (IsCounted finished committed) (trimmed_jobs jobs) (λ job there. all_at (IsCounted finished committed) jobs job each (in_trimmed jobs job there))

-- ---- puts of the records

module _ (merge : Operator) (party : Party) (world : World) (u : Unrecorded) (kept : Keeps merge world) (counted : JobsCount world.store) where
  abbrev finished : List ℕ
  finished = finished_jobs world.store.history

  abbrev committed : List ℕ
  committed = committed_jobs world.store.history

  abbrev stored : Jobs
  stored = stored_jobs world.store

  abbrev IsOpen : ℕ → Type 0
  IsOpen id = OfSome (λ job. is_past_work job ≡ false) (job_with id stored)

  fit : Fit finished committed stored
  fit = record { each = counted.each; among = was_finished world.store.history }

  -- A job that is stored as open was not finished.
  not_finished : (these : List ℕ) → AllByRecursion IsOpen these → (id : ℕ) → IsTrue (contains these id) → IsTrue (contains finished id) → ⊥
  not_finished these free id named fin = unfinished finished committed stored id counted.each (all_at IsOpen these id free (contains_in these id named)) fin

  not_new : (named : List (ℕ × JobSpec)) → AreNew world named → (p : ℕ × JobSpec) → IsIn p named → IsTrue (contains finished p.0) → ⊥
  not_new named new p there fin =
      let was = all_at (λ id. IsTrue (was_named world.store.history id)) finished p.0 (finished_named merge world kept) (contains_in finished p.0 fin) in
      let never = all_at (λ (q : ℕ × JobSpec). was_named world.store.history q.0 ≡ false) named p new there in
      cc (was, never)

  -- The jobs after a change that finishes and completes nothing.
  same_lists : (jobs : Jobs) → Fit finished committed jobs → AreCounted finished committed (trimmed_jobs jobs)
  same_lists jobs after = record { finished_once = counted.finished_once; committed_once = counted.committed_once; each = trimmed_each finished committed jobs after.each }

  worker_change : (f : Job → Job) (attempts : List (ℕ × ℕ)) → ((job : Job) → (f job).id ≡ job.id) → AllByRecursion (λ (a : ℕ × ℕ). IsOpen a.0) attempts → AreCounted finished committed (trimmed_jobs (changed_jobs f (firsts attempts) stored))
  worker_change f attempts same free = same_lists (changed_jobs f (firsts attempts) stored) (changed_fit finished committed f (firsts attempts) stored same (not_finished (firsts attempts) (all_map IsOpen (λ (a : ℕ × ℕ). a.0) attempts free)) fit)

  -- ---- a finish

  -- A finish of a job that is not past its work adds the job to the finished ones, each of which is counted once.
  finish_change : (worker id attempt : ℕ) (outputs : List (List ℕ)) → IsOpen id → AreCounted (finished ++ id ∷ []) committed (trimmed_jobs (changed_jobs (finished_by worker u outputs) (id ∷ []) stored))
  finish_change worker id attempt outputs free = record {
    finished_once = pairs_push (λ a b. a ≢ b) finished id counted.finished_once (all_from (λ a. a ≢ id) finished (λ a there same. never (subst (λ (n : ℕ). IsTrue (contains finished n)) same (in_contains finished a there))));
    committed_once = counted.committed_once;
    each = trimmed_each (finished ++ id ∷ []) committed (changed_jobs f (id ∷ []) stored) (all_on_these (IsCounted (finished ++ id ∷ []) committed) f (id ∷ []) stored (λ job there. by_these (IsCounted (finished ++ id ∷ []) committed) f (id ∷ []) job
        (λ named. (λ fin. refl, λ put. absurd (over job.id named (was_finished world.store.history job.id put))))
        (λ unnamed. ((λ fin. (all_at (IsCounted finished committed) stored job counted.each there).0 (before job.id unnamed fin)), (all_at (IsCounted finished committed) stored job counted.each there).1))));
  }
    where
      f : Job → Job
      f = finished_by worker u outputs

      never : IsTrue (contains finished id) → ⊥
      never fin = unfinished finished committed stored id counted.each free fin

      over : (n : ℕ) → IsTrue (contains (id ∷ []) n) → IsTrue (contains finished n) → ⊥
      over n named fin = one (contains_in (id ∷ []) n named)
        where
          one : IsIn n (id ∷ []) → ⊥
          one (inl same) = never (subst (λ (m : ℕ). IsTrue (contains finished m)) (sym same) fin)
          one (inr none) = absurd none

      before : (n : ℕ) → contains (id ∷ []) n ≡ false → IsTrue (contains (finished ++ id ∷ []) n) → IsTrue (contains finished n)
      before n unnamed fin = by (in_append n finished (id ∷ []) (contains_in (finished ++ id ∷ []) n fin))
        where
          by : IsIn n finished ⊎ IsIn n (id ∷ []) → IsTrue (contains finished n)
          by (inl there) = in_contains finished n there
          by (inr there) = let named = in_contains (id ∷ []) n there in absurd (cc (named, unnamed))

  -- ---- a poll

  module _ (change : PollChange) (jobs : Jobs) (fits : PollFits party world u change jobs) where
    abbrev begun : Jobs
    begun = with_new change.added stored

    abbrev now : List ℕ
    now = filter (contains change.completed) finished

    begun_fit : Fit finished committed begun
    begun_fit = new_fit finished committed change.added stored (not_new change.added fits.new) fit

    freed_fit : Fit finished committed (changed_jobs to_waiting change.freed begun)
    freed_fit = changed_fit finished committed to_waiting change.freed begun (λ job. refl)
        (not_finished change.freed (all_to _ _ change.freed (λ id there h. of_some (λ job. IsTrue (has_status Running job)) (λ job. is_past_work job ≡ false) (job_with id stored) (λ job is. open_status Running job is refl) h) fits.freed)) begun_fit

    opened_fit : Fit finished committed (changed_jobs (to_scheduled u.tables_of) change.scheduled (changed_jobs to_waiting change.freed begun))
    opened_fit = changed_fit finished committed (to_scheduled u.tables_of) change.scheduled (changed_jobs to_waiting change.freed begun) (λ job. refl)
        (λ id named fin. unfinished finished committed begun id begun_fit.each (of_some _ (λ job. is_past_work job ≡ false) (job_with id begun) (λ job is. open_status Submitted job is.0 refl) (all_at _ change.scheduled id fits.opened (contains_in change.scheduled id named))) fin) freed_fit

    -- A job that the poll completes was not committed before.
    not_committed : (id : ℕ) → IsTrue (contains change.completed id) → IsTrue (contains committed id) → ⊥
    not_committed id named put = by (job_with id begun) refl (all_at _ (change.completed ++ change.failed) id fits.ended (in_front id change.completed change.failed (contains_in change.completed id named)))
      where
        by : (o : Option Job) → job_with id begun ≡ o → OfSome (λ job. IsTrue (may_end job)) o → ⊥
        by None e h = h
        by (Some job) e h =
            let found = job_found id begun job e in
            end_open job h ((all_at (IsCounted finished committed) begun job begun_fit.each found.there).1 (subst (λ (n : ℕ). IsTrue (contains committed n)) (sym found.same) put))

    committed_before : (id : ℕ) → contains change.completed id ≡ false → IsTrue (contains (committed ++ now) id) → IsTrue (contains committed id)
    committed_before id unnamed put = by (in_append id committed now (contains_in (committed ++ now) id put))
      where
        by : IsIn id committed ⊎ IsIn id now → IsTrue (contains committed id)
        by (inl there) = in_contains committed id there
        by (inr there) = let named = (in_kept (contains change.completed) finished id there).1 in absurd (cc (named, unnamed))

    abbrev opened : Jobs
    opened = changed_jobs (to_scheduled u.tables_of) change.scheduled (changed_jobs to_waiting change.freed begun)

    completed_each : AllByRecursion (IsCounted finished (committed ++ now)) (changed_jobs to_completed change.completed opened)
    completed_each = all_on_these (IsCounted finished (committed ++ now)) to_completed change.completed opened (λ job there. by_these (IsCounted finished (committed ++ now)) to_completed change.completed job (λ named. (λ fin. refl, λ put. refl))
        (λ unnamed. ((all_at (IsCounted finished committed) opened job opened_fit.each there).0, λ put. (all_at (IsCounted finished committed) opened job opened_fit.each there).1 (committed_before job.id unnamed put))))

    failed_each : AllByRecursion (IsCounted finished (committed ++ now)) (changed_jobs to_failed change.failed (changed_jobs to_completed change.completed opened))
    failed_each = all_on_these (IsCounted finished (committed ++ now)) to_failed change.failed (changed_jobs to_completed change.completed opened) (λ job there. by_these (IsCounted finished (committed ++ now)) to_failed change.failed job (λ named. (λ fin. refl, λ put. refl))
        (λ unnamed. all_at (IsCounted finished (committed ++ now)) (changed_jobs to_completed change.completed opened) job completed_each there))

    poll_change : AreCounted finished (committed ++ now) (jobs_after u (Polled change) stored)
    poll_change = record {
      finished_once = counted.finished_once;
      committed_once = pairs_append (λ a b. a ≢ b) committed now counted.committed_once (pairs_filter (λ a b. a ≢ b) (contains change.completed) finished counted.finished_once)
          (all_from (λ a. AllByRecursion (λ b. a ≢ b) now) committed (λ a there. all_from (λ b. a ≢ b) now (λ b kept same.
          not_committed b (in_kept (contains change.completed) finished b kept).1 (subst (λ (n : ℕ). IsTrue (contains committed n)) same (in_contains committed a there)))));
      each = trimmed_each finished (committed ++ now) (changed_jobs to_failed change.failed (changed_jobs to_completed change.completed opened)) failed_each;
    }

  -- ---- any change

  -- The counts after an entry of a change that took effect.
  change_counts : (line : ℕ) (answer : Answer) (change : RecordChange) (jobs : Jobs) → stood answer ≡ true → ChangeFits merge party world u jobs change
      → AreCounted (finished_jobs (world.store.history ++ record { line = line; party = party; event = PutRecords change; answer = answer } ∷ [])) (committed_jobs (world.store.history ++ record { line = line; party = party; event = PutRecords change; answer = answer } ∷ []))
      (jobs_after u change stored)
  change_counts line answer change jobs took fits = by change fits
    where
      entry : RecordChange → Entry
      entry change = record { line = line; party = party; event = PutRecords change; answer = answer }

      nothing : (change : RecordChange) → finished_in true (PutRecords change) ≡ [] → completed_in true (PutRecords change) ≡ [] → AreCounted finished committed (jobs_after u change stored)
          → AreCounted (finished_jobs (world.store.history ++ entry change ∷ [])) (committed_jobs (world.store.history ++ entry change ∷ [])) (jobs_after u change stored)
      nothing change f c after = quietly world.store.history (entry change) (jobs_after u change stored) (ap (λ (b : Bool). finished_in b (PutRecords change)) took ∙ f) (ap (λ (b : Bool). completed_in b (PutRecords change)) took ∙ c) after

      by : (change : RecordChange) → ChangeFits merge party world u jobs change → AreCounted (finished_jobs (world.store.history ++ entry change ∷ [])) (committed_jobs (world.store.history ++ entry change ∷ [])) (jobs_after u change stored)
      by (RecordsEpoch epoch) fits = nothing (RecordsEpoch epoch) refl refl (same_lists stored fit)
      by (Submit named) fits = nothing (Submit named) refl refl (same_lists (with_new named stored) (new_fit finished committed named stored (not_new named fits.new) fit))
      by (Claim worker attempts) fits = nothing (Claim worker attempts) refl refl (worker_change (claimed_by worker u.moment) attempts (λ job. refl)
          (all_to _ _ attempts (λ a there h. of_some _ (λ job. is_past_work job ≡ false) (job_with a.0 stored) (λ job is. open_status Scheduled job (and_first (has_status Scheduled job) _ is.0) refl) h) fits.each))
      by (Beat worker attempts) fits = nothing (Beat worker attempts) refl refl (worker_change (beaten_by worker u) attempts (λ job. refl)
          (all_to _ _ attempts (λ a there h. of_some _ (λ job. is_past_work job ≡ false) (job_with a.0 stored) (λ job is. runs_open worker a.1 job is.0) h) fits.each))
      by (Release worker attempts) fits = nothing (Release worker attempts) refl refl (worker_change to_waiting attempts (λ job. refl)
          (all_to _ _ attempts (λ a there h. of_some _ (λ job. is_past_work job ≡ false) (job_with a.0 stored) (λ job is. runs_open worker a.1 job is) h) fits.each))
      by (Finish worker id attempt outputs) fits = as_pushed world.store.history (entry (Finish worker id attempt outputs)) (finished ++ id ∷ []) committed _
          (ap (λ (b : Bool). finished ++ finished_in b (PutRecords (Finish worker id attempt outputs))) took)
          (ap (λ (b : Bool). committed ++ filter (contains (completed_in b (PutRecords (Finish worker id attempt outputs)))) finished) took ∙ ap (λ (ids : List ℕ). committed ++ ids) (none_kept finished) ∙ append-nil committed)
          (finish_change worker id attempt outputs (of_some _ (λ job. is_past_work job ≡ false) (job_with id stored) (λ job is. runs_open worker attempt job is.live) fits.finishes))
      by (Polled change) fits = as_pushed world.store.history (entry (Polled change)) finished (committed ++ now change jobs fits) _
          (ap (λ (b : Bool). finished ++ finished_in b (PutRecords (Polled change))) took ∙ append-nil finished)
          (ap (λ (b : Bool). committed ++ filter (contains (completed_in b (PutRecords (Polled change)))) finished) took)
          (poll_change change jobs fits)

-- ---- all calls

-- Each lawful call keeps it so that no job is finished or committed twice.
pub counts_hold : (who : Caller) → CallsHold who (λ x. ⊤) (λ world. JobsCount world.store)
counts_hold who x strike world kept lawful may one counted = by (outcome who.merge x who.line who.party strike world lawful may)
  where
    mute : (entry : Entry) → IsMute (stood entry.answer) entry.event → AreCounted (finished_jobs (world.store.history ++ entry ∷ [])) (committed_jobs (world.store.history ++ entry ∷ [])) (stored_jobs world.store)
    mute entry is = let none = mute_finishes (stood entry.answer) entry.event is in quietly world.store.history entry (stored_jobs world.store) none.0 none.1 counted

    by : {new : World} → Outcome who.merge who.party world x new → JobsCount new.store
    by (Notes jobs_drawn tables_drawn entry is same) = subst (λ (t : World). JobsCount t.store) (sym same) (mute entry is)
    by (Deletes table entry what is fits same) = subst (λ (t : World). JobsCount t.store) (sym same) (mute entry is)
    by (NewTable table rows entry is fits same) = subst (λ (t : World). JobsCount t.store) (sym same) (mute entry is)
    by (NewManifest version change value line answer took what fits same) =
        subst (λ (t : World). JobsCount t.store) (sym same) (quietly world.store.history (record { line = line; party = who.party; event = PutManifest change; answer = answer }) (stored_jobs world.store) (no_finish (stood answer) change) (no_end (stood answer) change) counted)
      where
        no_finish : (b : Bool) (change : ManifestChange) → finished_in b (PutManifest change) ≡ []
        no_finish true change = refl
        no_finish false change = refl

        no_end : (b : Bool) (change : ManifestChange) → completed_in b (PutManifest change) ≡ []
        no_end true change = refl
        no_end false change = refl
    by (NewRecords change epoch jobs line answer took names fits same) =
        subst (λ (t : World). JobsCount t.store) (sym same)
        (subst (AreCounted (finished_jobs (world.store.history ++ record { line = line; party = who.party; event = PutRecords change; answer = answer } ∷ [])) (committed_jobs (world.store.history ++ record { line = line; party = who.party; event = PutRecords change; answer = answer } ∷ [])))
        (sym fits.makes_jobs) (change_counts who.merge who.party world fits.unrecorded kept counted line answer change jobs took fits.fits))

pub jobs_count_once : JobsCountOnce
jobs_count_once merge s keeps = record {
  claims = keeps.fleet.store.facts.attempts.once;
  finishes = keeps.fleet.counts.finished_once;
  commits = keeps.fleet.counts.committed_once;
}
