-- What a change of the records makes of plain jobs is the plain form of what it makes of jobs.
use Rattle.std.proofs.Common.{◌≡◌, refl, sym, ◌∙◌, ap, ℕ, List, [], ◌∷◌, cond, Bool, true, false, inl, inr, Option, Some, None}
use Rattle.std.specs.Prelude.{IsTrue, map, nat_lt, option_map, ◌||◌}
use Rattle.fleet_model.specs.Jobs.{JobSpec, Job, Jobs, Lease, contains, changed_jobs, put_job, trimmed_jobs, is_active, is_finished, finished_later}
use Rattle.fleet_model.specs.History.{RecordChange, RecordsEpoch, Submit, Claim, Beat, Finish, Release, Polled, PollChange}
use Rattle.fleet_model.specs.Work.Records.{Unrecorded, firsts, no_contexts, new_job, with_new, claimed_by, beaten_by, finished_by, to_waiting, to_scheduled, to_completed, to_failed, after_change, jobs_after}
use Rattle.fleet_model.specs.Past.Replay.{plain_job, without_moment}
use Rattle.step_laws.proofs.Elements.{IsIn}

-- ---- trimmed jobs

pub finished_plain : (jobs : Jobs) → finished_later (map plain_job jobs) ≡ finished_later jobs
finished_plain [] = refl
finished_plain (job ∷ jobs) = ap (λ b. is_finished job.status || b) (finished_plain jobs)

pub plain_trimmed : (jobs : Jobs) → map plain_job (trimmed_jobs jobs) ≡ trimmed_jobs (map plain_job jobs)
plain_trimmed [] = refl
plain_trimmed (job ∷ jobs) = by (is_active job) (finished_later jobs) (plain_trimmed jobs) ∙ ap (λ later. cond (is_active job) (plain_job job ∷ trimmed_jobs (map plain_job jobs)) (cond later (trimmed_jobs (map plain_job jobs)) (plain_job job ∷ trimmed_jobs (map plain_job jobs)))) (sym (finished_plain jobs))
  where
    by : (active later : Bool) → map plain_job (trimmed_jobs jobs) ≡ trimmed_jobs (map plain_job jobs)
        → map plain_job (cond active (job ∷ trimmed_jobs jobs) (cond later (trimmed_jobs jobs) (job ∷ trimmed_jobs jobs))) ≡ cond active (plain_job job ∷ trimmed_jobs (map plain_job jobs)) (cond later (trimmed_jobs (map plain_job jobs)) (plain_job job ∷ trimmed_jobs (map plain_job jobs)))
    by true later rest = ap (λ js. plain_job job ∷ js) rest
    by false true rest = rest
    by false false rest = ap (λ js. plain_job job ∷ js) rest

or_false : (a b : Bool) → (a || b) ≡ true → a ≡ false → b ≡ true
or_false true b h e = absurd (cc e)
or_false false b h e = h

finished_trimmed : (jobs : Jobs) → finished_later (trimmed_jobs jobs) ≡ finished_later jobs
finished_trimmed [] = refl
finished_trimmed (job ∷ jobs) = by (is_finished job.status) refl (finished_later jobs) refl (finished_trimmed jobs)
  where
    by : (over : Bool) → is_finished job.status ≡ over → (later : Bool) → finished_later jobs ≡ later → finished_later (trimmed_jobs jobs) ≡ finished_later jobs
        → finished_later (cond (cond over false true) (job ∷ trimmed_jobs jobs) (cond later (trimmed_jobs jobs) (job ∷ trimmed_jobs jobs))) ≡ (over || later)
    by true e true f rest = rest ∙ f
    by true e false f rest = ap (λ b. b || finished_later (trimmed_jobs jobs)) e
    by false e later f rest = ap (λ b. b || finished_later (trimmed_jobs jobs)) e ∙ rest ∙ f

-- Trimmed jobs stay as they are if they are trimmed again.
pub trimmed_once : (jobs : Jobs) → trimmed_jobs (trimmed_jobs jobs) ≡ trimmed_jobs jobs
trimmed_once [] = refl
trimmed_once (job ∷ jobs) = by (is_active job) refl (finished_later jobs) refl (trimmed_once jobs)
  where
    by : (active : Bool) → is_active job ≡ active → (later : Bool) → finished_later jobs ≡ later → trimmed_jobs (trimmed_jobs jobs) ≡ trimmed_jobs jobs
        → trimmed_jobs (cond active (job ∷ trimmed_jobs jobs) (cond later (trimmed_jobs jobs) (job ∷ trimmed_jobs jobs))) ≡ cond active (job ∷ trimmed_jobs jobs) (cond later (trimmed_jobs jobs) (job ∷ trimmed_jobs jobs))
    by true e later f rest = ap (λ b. cond b (job ∷ trimmed_jobs (trimmed_jobs jobs)) (cond (finished_later (trimmed_jobs jobs)) (trimmed_jobs (trimmed_jobs jobs)) (job ∷ trimmed_jobs (trimmed_jobs jobs)))) e ∙ ap (λ js. job ∷ js) rest
    by false e true f rest = rest
    by false e false f rest =
        ap (λ b. cond b (job ∷ trimmed_jobs (trimmed_jobs jobs)) (cond (finished_later (trimmed_jobs jobs)) (trimmed_jobs (trimmed_jobs jobs)) (job ∷ trimmed_jobs (trimmed_jobs jobs)))) e
        ∙ ap (λ b. cond b (trimmed_jobs (trimmed_jobs jobs)) (job ∷ trimmed_jobs (trimmed_jobs jobs))) (finished_trimmed jobs ∙ f)
        ∙ ap (λ js. job ∷ js) rest

-- ---- plain jobs

plain_twice : (jobs : Jobs) → map plain_job (map plain_job jobs) ≡ map plain_job jobs
plain_twice [] = refl
plain_twice (job ∷ jobs) =
    let lease = by job.lease in
    let rest = plain_twice jobs in
    λ i. record job { lease = lease i; context = None; kept_cut = None } ∷ rest i
  where
    by : (lease : Option Lease) → option_map without_moment (option_map without_moment lease) ≡ option_map without_moment lease
    by None = refl
    by (Some lease) = refl

plain_changed : (f g : Job → Job) (these : List ℕ) (jobs : Jobs) → ((job : Job) → IsIn job jobs → IsTrue (contains these job.id) → plain_job (f job) ≡ g (plain_job job)) → map plain_job (changed_jobs f these jobs) ≡ changed_jobs g these (map plain_job jobs)
plain_changed f g these [] same = refl
plain_changed f g these (job ∷ jobs) same =
    let first = by (contains these job.id) refl in
    let rest = plain_changed f g these jobs (λ other there. same other (inr there)) in
    λ i. first i ∷ rest i
  where
    by : (b : Bool) → contains these job.id ≡ b → plain_job (cond b (f job) job) ≡ cond b (g (plain_job job)) (plain_job job)
    by true e = same job (inl refl) e
    by false e = refl

plain_put : (new : Job) (jobs : Jobs) → map plain_job (put_job new jobs) ≡ put_job (plain_job new) (map plain_job jobs)
plain_put new [] = refl
plain_put new (job ∷ jobs) = by (nat_lt new.id job.id) (plain_put new jobs)
  where
    by : (b : Bool) → map plain_job (put_job new jobs) ≡ put_job (plain_job new) (map plain_job jobs)
        → map plain_job (cond b (new ∷ job ∷ jobs) (job ∷ put_job new jobs)) ≡ cond b (plain_job new ∷ plain_job job ∷ map plain_job jobs) (plain_job job ∷ put_job (plain_job new) (map plain_job jobs))
    by true rest = refl
    by false rest = ap (λ js. plain_job job ∷ js) rest

plain_with_new : (named : List (ℕ × JobSpec)) (jobs : Jobs) → map plain_job (with_new named jobs) ≡ with_new named (map plain_job jobs)
plain_with_new [] jobs = refl
plain_with_new (p ∷ named) jobs = plain_with_new named (put_job (new_job p) jobs) ∙ ap (with_new named) (plain_put (new_job p) jobs)

-- What the history does not record, for a replay with these tables.
abbrev pub unrecorded_by : (JobSpec → List ℕ) → Unrecorded
unrecorded_by tables_of = record { moment = 0; published = no_contexts; kept_cut = None; tables_of = tables_of }

-- The jobs among which a poll opens some.
abbrev pub opened_among : PollChange → Jobs → Jobs
opened_among change jobs = changed_jobs to_waiting change.freed (with_new change.added jobs)

-- The jobs that a poll opens have the tables that the replay gives them.
abbrev pub SameTables : Unrecorded → (JobSpec → List ℕ) → RecordChange → Jobs → Type 0
SameTables u tables_of (Polled change) jobs = (job : Job) → IsIn job (opened_among change jobs) → IsTrue (contains change.scheduled job.id) → u.tables_of job.spec ≡ tables_of job.spec
SameTables u tables_of change jobs = Unit

-- A change makes of plain jobs the plain form of what it makes of the jobs, if a poll opens them with the same tables.
plain_after : (u : Unrecorded) (tables_of : JobSpec → List ℕ) (change : RecordChange) (jobs : Jobs) → SameTables u tables_of change jobs → map plain_job (after_change u change jobs) ≡ after_change (unrecorded_by tables_of) change (map plain_job jobs)
plain_after u tables_of (RecordsEpoch epoch) jobs same = refl
plain_after u tables_of (Submit specs) jobs same = plain_with_new specs jobs
plain_after u tables_of (Claim worker attempts) jobs same = plain_changed (claimed_by worker u.moment) (claimed_by worker 0) (firsts attempts) jobs (λ job there named. refl)
plain_after u tables_of (Beat worker attempts) jobs same = plain_changed (beaten_by worker u) (beaten_by worker (unrecorded_by tables_of)) (firsts attempts) jobs (λ job there named. refl)
plain_after u tables_of (Finish worker id attempt outputs) jobs same = plain_changed (finished_by worker u outputs) (finished_by worker (unrecorded_by tables_of) outputs) (id ∷ []) jobs (λ job there named. refl)
plain_after u tables_of (Release worker attempts) jobs same = plain_changed to_waiting to_waiting (firsts attempts) jobs (λ job there named. refl)
plain_after u tables_of (Polled change) jobs same =
    plain_changed to_failed to_failed change.failed _ (λ job there named. refl)
    ∙ ap (changed_jobs to_failed change.failed) (plain_changed to_completed to_completed change.completed _ (λ job there named. refl)
    ∙ ap (changed_jobs to_completed change.completed) (plain_changed (to_scheduled u.tables_of) (to_scheduled tables_of) change.scheduled (opened_among change jobs) (λ job there named. tables job (same job there named))
    ∙ ap (changed_jobs (to_scheduled tables_of) change.scheduled) (plain_changed to_waiting to_waiting change.freed (with_new change.added jobs) (λ job there named. refl)
    ∙ ap (changed_jobs to_waiting change.freed) (plain_with_new change.added jobs))))
  where
    tables : (job : Job) → u.tables_of job.spec ≡ tables_of job.spec → plain_job (to_scheduled u.tables_of job) ≡ to_scheduled tables_of (plain_job job)
    tables job e i = record (plain_job (to_scheduled tables_of job)) { source_tables = e i }

-- The plain jobs after a put of the records are those that a replay gives.
pub plain_jobs_after : (u : Unrecorded) (tables_of : JobSpec → List ℕ) (change : RecordChange) (jobs : Jobs) → SameTables u tables_of change jobs
    → map plain_job (jobs_after u change jobs) ≡ map plain_job (jobs_after (unrecorded_by tables_of) change (map plain_job jobs))
plain_jobs_after u tables_of change jobs same =
    let after = plain_after u tables_of change jobs same in
    let made = after_change u change jobs in
    plain_trimmed made
    ∙ ap trimmed_jobs (sym (plain_twice made) ∙ ap (map plain_job) after)
    ∙ sym (plain_trimmed (after_change (unrecorded_by tables_of) change (map plain_job jobs)))
