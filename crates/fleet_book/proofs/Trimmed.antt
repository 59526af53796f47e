-- Changed records stand for the jobs of the model that are changed in the same way.
use Rattle.std.proofs.Common.{◌≡◌, refl, sym, ◌∙◌, ap, List, [], ◌∷◌, Bool, true, false, cond, not, ◌||◌, arith}
use Rattle.std.specs.Prelude.{◌==◌, nat_lt, Some, None}
use Rattle.std.proofs.lemmas.Bool.{ltb-true, ltb-false, le-ltb, lt-ltb, eqb-false}
use Rattle.fleet_model.specs.Jobs.{Jobs, is_finished, finished_later, trimmed_jobs, put_job}
use Rattle.fleet_jobs.specs.Parts.JobParts.{JobParts}
use Rattle.fleet_jobs.specs.Jobs.{job_of, jobs_of}
use Rattle.fleet_book.specs.Records.{kept_records, over_later, put_record, record_with}
use Rattle.fleet_jobs.specs.Status.{status_of}

later_same : (jobs : List JobParts) → finished_later (jobs_of jobs) ≡ over_later jobs
later_same [] = refl
later_same (job ∷ jobs) = by (is_finished (status_of job.status)) (later_same jobs)
  where
    by : (b : Bool) → finished_later (jobs_of jobs) ≡ over_later jobs → (b || finished_later (jobs_of jobs)) ≡ (not (not b) || over_later jobs)
    by true e = refl
    by false e = e

-- The records that are kept are the jobs that the model keeps.
pub trimmed_is : (jobs : List JobParts) → jobs_of (kept_records jobs) ≡ trimmed_jobs (jobs_of jobs)
trimmed_is [] = refl
trimmed_is (job ∷ jobs) = by (is_finished (status_of job.status)) (over_later jobs) (later_same jobs) (trimmed_is jobs)
  where
    by : (b later : Bool) → finished_later (jobs_of jobs) ≡ later → jobs_of (kept_records jobs) ≡ trimmed_jobs (jobs_of jobs)
        → jobs_of (cond (not b) (job ∷ kept_records jobs) (cond later (kept_records jobs) (job ∷ kept_records jobs)))
        ≡ cond (cond b false true) (job_of job ∷ trimmed_jobs (jobs_of jobs)) (cond (finished_later (jobs_of jobs)) (trimmed_jobs (jobs_of jobs)) (job_of job ∷ trimmed_jobs (jobs_of jobs)))
    by false later e same = ap (λ (js : Jobs). job_of job ∷ js) same
    by true true e same = same ∙ sym (ap (λ l. cond l (trimmed_jobs (jobs_of jobs)) (job_of job ∷ trimmed_jobs (jobs_of jobs))) e)
    by true false e same =
        ap (λ (js : Jobs). job_of job ∷ js) same ∙ sym (ap (λ l. cond l (trimmed_jobs (jobs_of jobs)) (job_of job ∷ trimmed_jobs (jobs_of jobs))) e)

-- A record under a new id is put where the model puts its job.
pub put_job_is : (new : JobParts) (jobs : List JobParts) → record_with new.id jobs ≡ None → jobs_of (put_record new jobs) ≡ put_job (job_of new) (jobs_of jobs)
put_job_is new [] none = refl
put_job_is new (job ∷ jobs) none = by (nat_lt job.id new.id) (job.id == new.id) refl refl none (λ later. put_job_is new jobs later)
  where
    by : (b c : Bool) → nat_lt job.id new.id ≡ b → (job.id == new.id) ≡ c → cond c (Some job) (record_with new.id jobs) ≡ None
        → (record_with new.id jobs ≡ None → jobs_of (put_record new jobs) ≡ put_job (job_of new) (jobs_of jobs))
        → jobs_of (cond b (job ∷ put_record new jobs) (cond c (new ∷ jobs) (new ∷ job ∷ jobs))) ≡ cond (nat_lt new.id job.id) (job_of new ∷ job_of job ∷ jobs_of jobs) (job_of job ∷ put_job (job_of new) (jobs_of jobs))
    by b true e f is rest = absurd (cc is)
    by true false e f is rest =
        let low = ltb-true job.id new.id e in
        let high : nat_lt new.id job.id ≡ false = le-ltb new.id job.id (omega (arith, low)) in
        ap (λ (js : Jobs). job_of job ∷ js) (rest is) ∙ sym (ap (λ t. cond t (job_of new ∷ job_of job ∷ jobs_of jobs) (job_of job ∷ put_job (job_of new) (jobs_of jobs))) high)
    by false false e f is rest =
        let low = ltb-false job.id new.id e in
        let apart = eqb-false job.id new.id f in
        let high : nat_lt new.id job.id ≡ true = lt-ltb new.id job.id (grind (arith, low, apart)) in
        sym (ap (λ t. cond t (job_of new ∷ job_of job ∷ jobs_of jobs) (job_of job ∷ put_job (job_of new) (jobs_of jobs))) high)
