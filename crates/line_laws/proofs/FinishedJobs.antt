-- The finished jobs of the history are exactly those that are stored as Compacted: each lawful call keeps this so.
use Rattle.std.proofs.Common.{◌≡◌, refl, sym, ◌∙◌, ap, subst, ℕ, ◌<◌, List, [], ◌∷◌, ◌++◌, cond, Bool, true, false, inl, inr, ◌⊎◌, Option, Some, None}
use Rattle.std.specs.Prelude.{◌==◌, ◌&&◌, ◌||◌, IsTrue, nat_lt, ⊤}
use Rattle.std.specs.List.{AllByRecursion, list_any}
use Rattle.std.proofs.lemmas.Bool.Decides.{Decides-eqb}
use Rattle.row_model.specs.Lists.{Pairs}
use Rattle.row_model.specs.Fold.{Operator}
use Rattle.fleet_model.specs.Jobs.{JobSpec, Job, Jobs, Status, Submitted, Scheduled, Running, Compacted, Completed, Failed, status_eq, has_status, is_finished, is_active, contains, changed_jobs, put_job, trimmed_jobs, finished_later, job_with}
use Rattle.fleet_model.specs.History.{Party, Event, PutManifest, PutRecords, ManifestChange, RecordChange, RecordsEpoch, Submit, Claim, Beat, Finish, Release, Polled, PollChange, Entry, stood}
use Rattle.fleet_model.specs.Past.Replay.{named_specs, plain_objects}
use Rattle.fleet_model.specs.Store.{stored_jobs, fresh_store}
use Rattle.fleet_model.specs.Work.Records.{Unrecorded, firsts, new_job, with_new, claimed_by, beaten_by, finished_by, to_waiting, to_scheduled, to_completed, to_failed, after_change, after_poll}
use Rattle.fleet_model.specs.Past.Finished.{finishes_job, later_or, finished_after, is_finished_by}
use Rattle.step_model.specs.Past.{World}
use Rattle.step_model.specs.Rivals.{Caller}
use Rattle.step_model.specs.Kept.Keeps.{Keeps}
use Rattle.step_model.specs.LawfulRecords.{OfSome, IsStoredAs, IsLiveAt, NamesFit, RecordsFit, ChangeFits, PollFits}
use Rattle.step_laws.proofs.Elements.{IsIn, all_at, any_of, contains_in}
use Rattle.step_laws.proofs.Changed.{found_job, job_found, on_these, by_these, all_on_these}
use Rattle.step_laws.proofs.Mute.{IsMute, and_never}
use Rattle.step_laws.proofs.Bodies.{whole_of}
use Rattle.step_laws.proofs.NewJobs.{in_new, rise_new, new_ids}
use Rattle.rival_laws.proofs.Outcomes.{Outcome, Notes, Deletes, NewTable, NewManifest, NewRecords, outcome}
use Rattle.line_laws.specs.States.{awaits_commit, FinishedAreStored}
use Rattle.line_laws.proofs.Courses.{CallsHold}
use Rattle.step_laws.proofs.Plain.{opened_among}
use Rattle.rival_laws.proofs.JobsMerged.{and_first}

-- ---- the history

-- What one more entry says of the job.
abbrev said : Entry → ℕ → Bool → Bool
said entry id before = cond (stood entry.answer) (later_or before (finishes_job id entry.event)) before

finished_push : (before : Bool) (history : List Entry) (entry : Entry) (id : ℕ) → finished_after before (history ++ entry ∷ []) id ≡ said entry id (finished_after before history id)
finished_push before [] entry id = refl
finished_push before (first ∷ history) entry id = finished_push (said first id before) history entry id

-- An entry that changes no object says nothing of it.
mute_says_none : (took : Bool) (event : Event) (id : ℕ) (before : Bool) → IsMute took event → cond took (later_or before (finishes_job id event)) before ≡ before
mute_says_none false event id before mute = refl
mute_says_none true (PutRecords change) id before mute = let never = mute.objects [] (λ n. record { segment = []; sources = []; destination = None }) (plain_objects fresh_store) in absurd (cc (ap (λ o. o.records) never))
mute_says_none true event id before mute = refl

-- ---- the jobs

-- The jobs in which one with this id awaits its commit.
abbrev pub awaits : ℕ → Jobs → Bool
awaits id jobs = list_any (awaits_commit id) jobs

pub or_none : (b : Bool) → (b || false) ≡ b
or_none true = refl
or_none false = refl

ended_awaits_none : (id : ℕ) (job : Job) → is_active job ≡ false → awaits_commit id job ≡ false
ended_awaits_none id job ended = ap (λ (b : Bool). (id == job.id) && b) (by job.status ended) ∙ and_never (id == job.id)
  where
    by : (status : Status) → cond (is_finished status) false true ≡ false → status_eq Compacted status ≡ false
    by Compacted e = absurd (cc e)
    by Submitted e = refl
    by Scheduled e = refl
    by Running e = refl
    by Completed e = refl
    by Failed e = refl

-- Jobs that a put drops await no commit.
awaits_trimmed : (id : ℕ) (jobs : Jobs) → awaits id (trimmed_jobs jobs) ≡ awaits id jobs
awaits_trimmed id [] = refl
awaits_trimmed id (job ∷ jobs) = by (is_active job) refl (finished_later jobs) (awaits_trimmed id jobs)
  where
    by : (active : Bool) → is_active job ≡ active → (later : Bool) → awaits id (trimmed_jobs jobs) ≡ awaits id jobs
        → awaits id (cond active (job ∷ trimmed_jobs jobs) (cond later (trimmed_jobs jobs) (job ∷ trimmed_jobs jobs))) ≡ (awaits_commit id job || awaits id jobs)
    by true e later rest = ap (λ (b : Bool). awaits_commit id job || b) rest
    by false e true rest = rest ∙ sym (ap (λ (b : Bool). b || awaits id jobs) (ended_awaits_none id job e))
    by false e false rest = ap (λ (b : Bool). awaits_commit id job || b) rest

-- A change that changes for none of these jobs whether it awaits its commit.
awaits_changed : (id : ℕ) (f : Job → Job) (these : List ℕ) (jobs : Jobs) → ((job : Job) → IsIn job jobs → IsTrue (contains these job.id) → awaits_commit id (f job) ≡ awaits_commit id job) → awaits id (changed_jobs f these jobs) ≡ awaits id jobs
awaits_changed id f these [] same = refl
awaits_changed id f these (job ∷ jobs) same =
    let first : awaits_commit id (on_these f these job) ≡ awaits_commit id job = by_these (λ (other : Job). awaits_commit id other ≡ awaits_commit id job) f these job (same job (inl refl)) (λ none. refl) in
    let rest = awaits_changed id f these jobs (λ other there. same other (inr there)) in
    (λ i. first i || rest i)

-- A job that is put in is Submitted.
awaits_put : (id : ℕ) (p : ℕ × JobSpec) (jobs : Jobs) → awaits id (put_job (new_job p) jobs) ≡ awaits id jobs
awaits_put id p [] = ap (λ (b : Bool). b || false) (and_never (id == p.0))
awaits_put id p (job ∷ jobs) = by (nat_lt p.0 job.id) (awaits_put id p jobs)
  where
    by : (b : Bool) → awaits id (put_job (new_job p) jobs) ≡ awaits id jobs → awaits id (cond b (new_job p ∷ job ∷ jobs) (job ∷ put_job (new_job p) jobs)) ≡ (awaits_commit id job || awaits id jobs)
    by true rest = ap (λ (b : Bool). b || (awaits_commit id job || awaits id jobs)) (and_never (id == p.0))
    by false rest = ap (λ (b : Bool). awaits_commit id job || b) rest

awaits_new : (id : ℕ) (named : List (ℕ × JobSpec)) (jobs : Jobs) → awaits id (with_new named jobs) ≡ awaits id jobs
awaits_new id [] jobs = refl
awaits_new id (p ∷ named) jobs = awaits_new id named (put_job (new_job p) jobs) ∙ awaits_put id p jobs

-- ---- one change

neither : (id : ℕ) (old new : Job) → has_status Compacted old ≡ false → has_status Compacted new ≡ false → awaits_commit id new ≡ awaits_commit id old
neither id old new was is = ap (λ (b : Bool). (id == new.id) && b) is ∙ and_never (id == new.id) ∙ sym (ap (λ (b : Bool). (id == old.id) && b) was ∙ and_never (id == old.id))

pub other_awaits_none : (id : ℕ) (job : Job) → (id ≡ job.id → ⊥) → awaits_commit id job ≡ false
other_awaits_none id job other = by (id == job.id) refl
  where
    by : (b : Bool) → (id == job.id) ≡ b → (b && has_status Compacted job) ≡ false
    by true e = absurd (other ((Decides-eqb id job.id).0 e))
    by false e = refl

pub none_awaits : (id : ℕ) (jobs : Jobs) → AllByRecursion (λ job. awaits_commit id job ≡ false) jobs → awaits id jobs ≡ false
none_awaits id [] none = refl
none_awaits id (job ∷ jobs) none = let first = none.0 in let rest = none_awaits id jobs none.1 in (λ i. first i || rest i)

-- The stored job of this id has what is said of it.
pub stored_has : (P : Job → Type 0) (jobs : Jobs) (job : Job) (id : ℕ) → Pairs (λ a b. a.id < b.id) jobs → IsIn job jobs → id ≡ job.id → OfSome P (job_with id jobs) → P job
stored_has P jobs job id rise there same h = subst (OfSome P) (ap (λ n. job_with n jobs) same ∙ found_job jobs job rise there) h

-- One of these pairs names the job.
record IsNamedIn {A : Type 0} (pairs : List (ℕ × A)) (id : ℕ) : Type 0 where
  pair : ℕ × A
  there : IsIn pair pairs
  same : pair.0 ≡ id

named_pair : {A : Type 0} (pairs : List (ℕ × A)) (id : ℕ) → IsIn id (firsts pairs) → IsNamedIn pairs id
named_pair [] id there = absurd there
named_pair (p ∷ pairs) id (inl same) = record { pair = p; there = inl refl; same = same }
named_pair (p ∷ pairs) id (inr there) = let n = named_pair pairs id there in record { pair = n.pair; there = inr n.there; same = n.same }

-- A job with a status other than Compacted fails the test for Compacted.
pub status_not : (a : Status) (job : Job) → status_eq a job.status ≡ true → status_eq a Compacted ≡ false → has_status Compacted job ≡ false
status_not a job is other = by a job.status is other
  where
    by : (a s : Status) → status_eq a s ≡ true → status_eq a Compacted ≡ false → status_eq Compacted s ≡ false
    by Submitted Submitted e o = refl
    by Scheduled Scheduled e o = refl
    by Running Running e o = refl
    by Compacted Compacted e o = absurd (cc o)
    by Completed Completed e o = refl
    by Failed Failed e o = refl
    by a s e o = absurd (cc e)

runs : (worker attempt : ℕ) (job : Job) → IsLiveAt worker attempt job → has_status Compacted job ≡ false
runs worker attempt job live = status_not Running job (and_first (has_status Running job) _ (and_first _ _ live)) refl

-- ---- all changes

-- A change of jobs whose named ones are stored and did not wait, nor do they afterwards.
named_change : {A : Type 0} (id : ℕ) (f : Job → Job) (pairs : List (ℕ × A)) (jobs : Jobs) → Pairs (λ a b. a.id < b.id) jobs → AllByRecursion (λ a. OfSome (λ job. has_status Compacted job ≡ false) (job_with a.0 jobs)) pairs
    → ((job : Job) → has_status Compacted job ≡ false → has_status Compacted (f job) ≡ false) → awaits id (changed_jobs f (firsts pairs) jobs) ≡ awaits id jobs
named_change {A} id f pairs jobs rise each keeps = awaits_changed id f (firsts pairs) jobs (λ job there named.
    let n = named_pair pairs job.id (contains_in (firsts pairs) job.id named) in
    let was = stored_has (λ (other : Job). has_status Compacted other ≡ false) jobs job n.pair.0 rise there n.same (all_at (λ (a : ℕ × A). OfSome (λ (other : Job). has_status Compacted other ≡ false) (job_with a.0 jobs)) pairs n.pair each n.there) in
    neither id job (f job) was (keeps job was))

of_some_to : (P Q : Job → Type 0) (o : Option Job) → ((job : Job) → P job → Q job) → OfSome P o → OfSome Q o
of_some_to P Q None to h = h
of_some_to P Q (Some job) to h = to job h

all_to_any : {A : Type 0} (P Q : A → Type 0) (xs : List A) → ((x : A) → P x → Q x) → AllByRecursion P xs → AllByRecursion Q xs
all_to_any P Q [] to h = tt
all_to_any P Q (x ∷ xs) to h = (to x h.0, all_to_any P Q xs to h.1)

-- ---- a poll's change

abbrev opened_jobs : Unrecorded → PollChange → Jobs → Jobs
opened_jobs u change jobs = changed_jobs (to_scheduled u.tables_of) change.scheduled (opened_among change jobs)

-- A freed job ran, and no new job is freed into a job that waits for its commit.
freed_awaits : (merge : Operator) (party : Party) (world : World) (u : Unrecorded) (change : PollChange) (jobs : Jobs) (id : ℕ) → Pairs (λ a b. a.id < b.id) (stored_jobs world.store) → PollFits party world u change jobs
    → awaits id (opened_among change (stored_jobs world.store)) ≡ awaits id (stored_jobs world.store)
freed_awaits merge party world u change jobs id rise fits =
    awaits_changed id to_waiting change.freed (with_new change.added (stored_jobs world.store)) (λ job there named. neither id job (to_waiting job) (was job named (in_new change.added (stored_jobs world.store) job there)) refl)
    ∙ awaits_new id change.added (stored_jobs world.store)
  where
    was : (job : Job) → IsTrue (contains change.freed job.id) → ((p : ℕ × JobSpec) × (IsIn p change.added × (new_job p ≡ job))) ⊎ IsIn job (stored_jobs world.store) → has_status Compacted job ≡ false
    was job named (inl (p, (there, same))) = sym (ap (has_status Compacted) same)
    was job named (inr there) = stored_has (λ (other : Job). has_status Compacted other ≡ false) (stored_jobs world.store) job job.id rise there refl
        (of_some_to (λ other. IsTrue (has_status Running other)) (λ other. has_status Compacted other ≡ false) (job_with job.id (stored_jobs world.store)) (λ other is. status_not Running other is refl)
        (all_at (λ n. IsStoredAs world n (λ other. IsTrue (has_status Running other))) change.freed job.id fits.freed (contains_in change.freed job.id named)))

-- An opened job was Submitted.
opened_awaits : (party : Party) (world : World) (u : Unrecorded) (change : PollChange) (jobs : Jobs) (id : ℕ) → Pairs (λ a b. a.id < b.id) (with_new change.added (stored_jobs world.store)) → PollFits party world u change jobs
    → awaits id (opened_jobs u change (stored_jobs world.store)) ≡ awaits id (opened_among change (stored_jobs world.store))
opened_awaits party world u change jobs id rise fits = by all
  where
    begun : Jobs
    begun = with_new change.added (stored_jobs world.store)

    submitted : (job : Job) → IsIn job begun → IsTrue (contains change.scheduled job.id) → has_status Compacted job ≡ false
    submitted job there named = stored_has (λ (other : Job). has_status Compacted other ≡ false) begun job job.id rise there refl
        (of_some_to _ (λ other. has_status Compacted other ≡ false) (job_with job.id begun) (λ other is. status_not Submitted other is.0 refl)
        (all_at _ change.scheduled job.id fits.opened (contains_in change.scheduled job.id named)))

    all : AllByRecursion (λ job. IsTrue (contains change.scheduled job.id) → has_status Compacted job ≡ false) (opened_among change (stored_jobs world.store))
    all = all_on_these (λ job. IsTrue (contains change.scheduled job.id) → has_status Compacted job ≡ false) to_waiting change.freed begun
        (λ job there. by_these (λ (other : Job). IsTrue (contains change.scheduled other.id) → has_status Compacted other ≡ false) to_waiting change.freed job (λ freed named. refl) (λ kept named. submitted job there named))

    by : AllByRecursion (λ job. IsTrue (contains change.scheduled job.id) → has_status Compacted job ≡ false) (opened_among change (stored_jobs world.store)) → awaits id (opened_jobs u change (stored_jobs world.store)) ≡ awaits id (opened_among change (stored_jobs world.store))
    by h = awaits_changed id (to_scheduled u.tables_of) change.scheduled (opened_among change (stored_jobs world.store))
        (λ job there named. neither id job (to_scheduled u.tables_of job) (all_at (λ (other : Job). IsTrue (contains change.scheduled other.id) → has_status Compacted other ≡ false) (opened_among change (stored_jobs world.store)) job h there named) refl)

contains_none : (xs ys : List ℕ) (n : ℕ) → contains (xs ++ ys) n ≡ false → (contains xs n ≡ false) × (contains ys n ≡ false)
contains_none [] ys n e = (refl, e)
contains_none (x ∷ xs) ys n e = by (x == n) e (contains_none xs ys n)
  where
    by : (b : Bool) → cond b true (contains (xs ++ ys) n) ≡ false → (contains (xs ++ ys) n ≡ false → (contains xs n ≡ false) × (contains ys n ≡ false)) → (cond b true (contains xs n) ≡ false) × (contains ys n ≡ false)
    by true e rest = absurd (cc e)
    by false e rest = rest e

contains_either : (xs ys : List ℕ) (n : ℕ) → contains (xs ++ ys) n ≡ true → contains xs n ≡ false → contains ys n ≡ true
contains_either [] ys n e none = e
contains_either (x ∷ xs) ys n e none = by (x == n) e none (contains_either xs ys n)
  where
    by : (b : Bool) → cond b true (contains (xs ++ ys) n) ≡ true → cond b true (contains xs n) ≡ false → (contains (xs ++ ys) n ≡ true → contains xs n ≡ false → contains ys n ≡ true) → contains ys n ≡ true
    by true e none rest = absurd (cc none)
    by false e none rest = rest e none

-- Jobs that the change does not end await their commits as before.
unended_awaits : (id : ℕ) (change : PollChange) (jobs : Jobs) → contains (change.completed ++ change.failed) id ≡ false → awaits id (changed_jobs to_failed change.failed (changed_jobs to_completed change.completed jobs)) ≡ awaits id jobs
unended_awaits id change jobs none =
    let n = contains_none change.completed change.failed id none in
    unnamed to_failed change.failed (changed_jobs to_completed change.completed jobs) (λ job. refl) n.1 ∙ unnamed to_completed change.completed jobs (λ job. refl) n.0
  where
    unnamed : (f : Job → Job) (these : List ℕ) (jobs : Jobs) → ((job : Job) → (f job).id ≡ job.id) → contains these id ≡ false → awaits id (changed_jobs f these jobs) ≡ awaits id jobs
    unnamed f these jobs keeps none = awaits_changed id f these jobs (λ job there named.
        let other = differs these job named none in
        other_awaits_none id (f job) (λ same. other (same ∙ keeps job)) ∙ sym (other_awaits_none id job other))
      where
        differs : (these : List ℕ) (job : Job) → IsTrue (contains these job.id) → contains these id ≡ false → id ≡ job.id → ⊥
        differs these job named none same = let there = ap (contains these) same in absurd (cc (none, there, named))

-- A job that the change ends awaits nothing.
ended_awaits : (id : ℕ) (change : PollChange) (jobs : Jobs) → contains (change.completed ++ change.failed) id ≡ true → awaits id (changed_jobs to_failed change.failed (changed_jobs to_completed change.completed jobs)) ≡ false
ended_awaits id change jobs ends = none_awaits id _ (all_on_these (λ job. awaits_commit id job ≡ false) to_failed change.failed (changed_jobs to_completed change.completed jobs) (λ job there.
    by_these (λ (other : Job). awaits_commit id other ≡ false) to_failed change.failed job (λ named. and_never (id == job.id)) (λ unnamed.
    all_at (λ (other : Job). contains change.failed other.id ≡ false → awaits_commit id other ≡ false) (changed_jobs to_completed change.completed jobs) job completed there unnamed)))
  where
    completed : AllByRecursion (λ job. contains change.failed job.id ≡ false → awaits_commit id job ≡ false) (changed_jobs to_completed change.completed jobs)
    completed = all_on_these (λ job. contains change.failed job.id ≡ false → awaits_commit id job ≡ false) to_completed change.completed jobs (λ job there.
        by_these (λ (other : Job). contains change.failed other.id ≡ false → awaits_commit id other ≡ false) to_completed change.completed job (λ named unfailed. and_never (id == job.id)) (λ unnamed unfailed.
        other_awaits_none id job (λ same. never (contains_either change.completed change.failed id ends (ap (contains change.completed) same ∙ unnamed)) (ap (contains change.failed) same ∙ unfailed))))
      where
        never : contains change.failed id ≡ true → contains change.failed id ≡ false → ⊥
        never e f = absurd (cc (e, f))

-- ---- the put

-- A finish makes its job wait for its commit.
finish_awaits : (id job worker : ℕ) (u : Unrecorded) (outputs : List (List ℕ)) (jobs : Jobs) (before : Bool) → Pairs (λ a b. a.id < b.id) jobs → OfSome (λ (other : Job). has_status Compacted other ≡ false) (job_with job jobs) → before ≡ awaits id jobs
    → later_or before (cond (id == job) (Some true) None) ≡ awaits id (changed_jobs (finished_by worker u outputs) (job ∷ []) jobs)
finish_awaits id job worker u outputs jobs before rise stored same = by (id == job) refl
  where
    f : Job → Job
    f = finished_by worker u outputs

    found : (o : Option Job) → job_with job jobs ≡ o → OfSome (λ (other : Job). has_status Compacted other ≡ false) o → id ≡ job → true ≡ awaits id (changed_jobs f (job ∷ []) jobs)
    found None e h is = absurd h
    found (Some other) e h is =
        let there = job_found job jobs other e in
        sym (any_of (awaits_commit id) (changed_jobs f (job ∷ []) jobs) (f other) (changed jobs there.there (sym there.same)) (ap (λ (b : Bool). b && true) ((Decides-eqb id other.id).1 (is ∙ sym there.same))))
      where
        changed : (jobs : Jobs) → IsIn other jobs → job ≡ other.id → IsIn (f other) (changed_jobs f (job ∷ []) jobs)
        changed [] there one = absurd there
        changed (first ∷ jobs) (inl here) one = inl (ap (λ (b : Bool). cond (cond b true false) (f first) first) ((Decides-eqb job first.id).1 (one ∙ sym (ap (λ (j : Job). j.id) here))) ∙ ap f here)
        changed (first ∷ jobs) (inr there) one = inr (changed jobs there one)

    by : (b : Bool) → (id == job) ≡ b → later_or before (cond b (Some true) None) ≡ awaits id (changed_jobs f (job ∷ []) jobs)
    by true e = found (job_with job jobs) refl stored ((Decides-eqb id job).0 e)
    by false e = same ∙ sym (awaits_changed id f (job ∷ []) jobs (λ other there named.
        let one = this_one job other.id named in
        let differs : id ≡ other.id → ⊥ = λ is. refused ((Decides-eqb id job).1 (is ∙ sym one)) e in
        other_awaits_none id (f other) differs ∙ sym (other_awaits_none id other differs)))
      where
        refused : (id == job) ≡ true → (id == job) ≡ false → ⊥
        refused e f = absurd (cc (e, f))

        this_one : (a b : ℕ) → IsTrue (contains (a ∷ []) b) → a ≡ b
        this_one a b h = (Decides-eqb a b).0 (only (a == b) h)
          where
            only : (c : Bool) → cond c true false ≡ true → c ≡ true
            only true e = refl
            only false e = absurd (cc e)

-- A put of the records that took effect says of each job what is stored of it then.
change_awaits : (merge : Operator) (party : Party) (world : World) (u : Unrecorded) (jobs : Jobs) (change : RecordChange) (id : ℕ) → Keeps merge world → NamesFit party world (named_specs (PutRecords change)) → ChangeFits merge party world u jobs change
    → is_finished_by world.store.history id ≡ awaits id (stored_jobs world.store)
    → later_or (is_finished_by world.store.history id) (finishes_job id (PutRecords change)) ≡ awaits id (after_change u change (stored_jobs world.store))
change_awaits merge party world u jobs (RecordsEpoch epoch) id kept names fits h = h
change_awaits merge party world u jobs (Submit named) id kept names fits h = h ∙ sym (awaits_new id named (stored_jobs world.store))
change_awaits merge party world u jobs (Claim worker attempts) id kept names fits h = h ∙ sym (named_change id (claimed_by worker u.moment) attempts (stored_jobs world.store) kept.stored.sound.job_ids
    (all_to_any _ _ attempts (λ a stored. of_some_to _ (λ job. has_status Compacted job ≡ false) (job_with a.0 (stored_jobs world.store)) (λ job is. status_not Scheduled job (and_first (has_status Scheduled job) _ is.0) refl) stored) fits.each)
    (λ job was. refl))
change_awaits merge party world u jobs (Beat worker attempts) id kept names fits h = h ∙ sym (awaits_changed id (beaten_by worker u) (firsts attempts) (stored_jobs world.store) (λ job there named. refl))
change_awaits merge party world u jobs (Finish worker job attempt outputs) id kept names fits h =
    finish_awaits id job worker u outputs (stored_jobs world.store) (is_finished_by world.store.history id) kept.stored.sound.job_ids
    (of_some_to _ (λ other. has_status Compacted other ≡ false) (job_with job (stored_jobs world.store)) (λ other is. runs worker attempt other is.live) fits.finishes) h
change_awaits merge party world u jobs (Release worker attempts) id kept names fits h = h ∙ sym (named_change id to_waiting attempts (stored_jobs world.store) kept.stored.sound.job_ids
    (all_to_any _ _ attempts (λ a stored. of_some_to _ (λ job. has_status Compacted job ≡ false) (job_with a.0 (stored_jobs world.store)) (λ job is. runs worker a.1 job is) stored) fits.each)
    (λ job was. refl))
change_awaits merge party world u jobs (Polled change) id kept names fits h = by (contains (change.completed ++ change.failed) id) refl
  where
    rise : Pairs (λ a b. a.id < b.id) (with_new change.added (stored_jobs world.store))
    rise = rise_new change.added (stored_jobs world.store) names.once (new_ids merge world kept.stored.replay.specs change.added (whole_of merge world kept).body fits.new) kept.stored.sound.job_ids

    by : (b : Bool) → contains (change.completed ++ change.failed) id ≡ b → later_or (is_finished_by world.store.history id) (cond b (Some false) None) ≡ awaits id (after_poll u change (stored_jobs world.store))
    by true e = sym (ended_awaits id change (opened_jobs u change (stored_jobs world.store)) e)
    by false e = h ∙ sym (unended_awaits id change (opened_jobs u change (stored_jobs world.store)) e ∙ opened_awaits party world u change jobs id rise fits ∙ freed_awaits merge party world u change jobs id kept.stored.sound.job_ids fits)

-- ---- all calls

-- Each lawful call keeps it so that the finished jobs of the history are those that are stored as Compacted.
pub finished_holds : (who : Caller) → CallsHold who (λ x. ⊤) (λ world. FinishedAreStored world.store)
finished_holds who x strike world kept lawful may one h = by (outcome who.merge x who.line who.party strike world lawful may)
  where
    mute : (entry : Entry) (id : ℕ) → IsMute (stood entry.answer) entry.event → is_finished_by (world.store.history ++ entry ∷ []) id ≡ awaits id (stored_jobs world.store)
    mute entry id is = finished_push false world.store.history entry id ∙ mute_says_none (stood entry.answer) entry.event id (is_finished_by world.store.history id) is ∙ h id

    manifest : (entry : Entry) (change : ManifestChange) (id : ℕ) → entry.event ≡ PutManifest change → is_finished_by (world.store.history ++ entry ∷ []) id ≡ awaits id (stored_jobs world.store)
    manifest entry change id is = finished_push false world.store.history entry id ∙ ap (λ (event : Event). cond (stood entry.answer) (later_or (is_finished_by world.store.history id) (finishes_job id event)) (is_finished_by world.store.history id)) is ∙ either (stood entry.answer) ∙ h id
      where
        either : (b : Bool) → cond b (is_finished_by world.store.history id) (is_finished_by world.store.history id) ≡ is_finished_by world.store.history id
        either true = refl
        either false = refl

    records : (entry : Entry) (change : RecordChange) (epoch : ℕ) (jobs : Jobs) (id : ℕ) → stood entry.answer ≡ true → entry.event ≡ PutRecords change → NamesFit who.party world (named_specs (PutRecords change)) → RecordsFit who.merge who.party world change epoch jobs
        → is_finished_by (world.store.history ++ entry ∷ []) id ≡ awaits id jobs
    records entry change epoch jobs id took is names fits =
        finished_push false world.store.history entry id
        ∙ ap (λ (b : Bool). cond b (later_or (is_finished_by world.store.history id) (finishes_job id entry.event)) (is_finished_by world.store.history id)) took
        ∙ ap (λ (event : Event). later_or (is_finished_by world.store.history id) (finishes_job id event)) is
        ∙ change_awaits who.merge who.party world fits.unrecorded jobs change id kept names fits.fits (h id)
        ∙ sym (awaits_trimmed id (after_change fits.unrecorded change (stored_jobs world.store)))
        ∙ ap (awaits id) (sym fits.makes_jobs)

    by : {new : World} → Outcome who.merge who.party world x new → FinishedAreStored new.store
    by (Notes jobs_drawn tables_drawn entry is same) = subst (λ (t : World). FinishedAreStored t.store) (sym same) (λ id. mute entry id is)
    by (Deletes table entry what is fits same) = subst (λ (t : World). FinishedAreStored t.store) (sym same) (λ id. mute entry id is)
    by (NewTable table rows entry is fits same) = subst (λ (t : World). FinishedAreStored t.store) (sym same) (λ id. mute entry id is)
    by (NewManifest version change value line answer took what fits same) =
        subst (λ (t : World). FinishedAreStored t.store) (sym same) (λ id. manifest (record { line = line; party = who.party; event = PutManifest change; answer = answer }) change id refl)
    by (NewRecords change epoch jobs line answer took names fits same) =
        subst (λ (t : World). FinishedAreStored t.store) (sym same) (λ id. records (record { line = line; party = who.party; event = PutRecords change; answer = answer }) change epoch jobs id took refl names fits)
