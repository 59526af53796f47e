-- A coordinator takes stored records as the model does.
use Rattle.std.proofs.Common.{◌≡◌, refl, sym, ◌∙◌, ap, subst, ℕ, ◌<◌, List, [], ◌∷◌, Bool, true, false, cond, arith}
use Rattle.std.specs.Prelude.{◌==◌, nat_lt, Option, Some, None, option_map}
use Rattle.std.specs.List.{AllByRecursion}
use Rattle.std.proofs.lemmas.Bool.{eqb-true, eqb-false, ltb-true, ltb-false}
use Rattle.std.proofs.lemmas.Cmp.{nat_eq_equiv}
use Rattle.row_laws.proofs.Elements.{all_weaken}
use Rattle.fleet_model.specs.Jobs.{Jobs, job_with, put_job}
use Rattle.step_model.specs.Steps.Merging as model
use Rattle.fleet_jobs.specs.Parts.JobParts.{JobParts}
use Rattle.fleet_jobs.specs.Jobs.{job_of, jobs_of}
use Rattle.fleet_book.specs.Records.{AreRising, put_record, record_with}
use Rattle.fleet_book.specs.States.{takes, with_stored}
use Rattle.fleet_jobs.specs.Status.{status_of}
use Rattle.fleet_book.specs.Laws.{MergesAreTheModels}
use Rattle.fleet_book.proofs.Records.{Above, none_there, rising_put}
use Rattle.fleet_book.proofs.Trimmed.{put_job_is}

-- The model's job with an id is that of the record with this id.
pub looked : (id : ℕ) (jobs : List JobParts) → job_with id (jobs_of jobs) ≡ option_map job_of (record_with id jobs)
looked id [] = refl
looked id (job ∷ jobs) = ap (λ b. cond b (Some (job_of job)) (job_with id (jobs_of jobs))) (nat_eq_equiv.symm id job.id) ∙ by (job.id == id) (looked id jobs)
  where
    by : (b : Bool) → job_with id (jobs_of jobs) ≡ option_map job_of (record_with id jobs) → cond b (Some (job_of job)) (job_with id (jobs_of jobs)) ≡ option_map job_of (cond b (Some job) (record_with id jobs))
    by true rest = refl
    by false rest = rest

unreplaced : (new : JobParts) (jobs : List JobParts) → AllByRecursion (Above new.id) jobs → model.with_replaced (job_of new) (jobs_of jobs) ≡ jobs_of jobs
unreplaced new [] all = refl
unreplaced new (job ∷ jobs) all = by (new.id == job.id) refl (unreplaced new jobs all.1)
  where
    by : (b : Bool) → (new.id == job.id) ≡ b → model.with_replaced (job_of new) (jobs_of jobs) ≡ jobs_of jobs → cond b (job_of new) (job_of job) ∷ model.with_replaced (job_of new) (jobs_of jobs) ≡ job_of job ∷ jobs_of jobs
    by true e rest = let same = eqb-true new.id job.id e in let high = all.0 in absurd (omega (arith, same, high))
    by false e rest = ap (λ (js : Jobs). job_of job ∷ js) rest

-- A record that replaces another one replaces its job in the model.
replaced_is : (new there : JobParts) (jobs : List JobParts) → AreRising jobs → record_with new.id jobs ≡ Some there → jobs_of (put_record new jobs) ≡ model.with_replaced (job_of new) (jobs_of jobs)
replaced_is new there [] up is = absurd (cc is)
replaced_is new there (job ∷ jobs) up is = by (nat_lt job.id new.id) (job.id == new.id) refl refl is (λ later. replaced_is new there jobs up.1 later)
  where
    by : (b c : Bool) → nat_lt job.id new.id ≡ b → (job.id == new.id) ≡ c → cond c (Some job) (record_with new.id jobs) ≡ Some there
        → (record_with new.id jobs ≡ Some there → jobs_of (put_record new jobs) ≡ model.with_replaced (job_of new) (jobs_of jobs))
        → jobs_of (cond b (job ∷ put_record new jobs) (cond c (new ∷ jobs) (new ∷ job ∷ jobs))) ≡ cond (new.id == job.id) (job_of new) (job_of job) ∷ model.with_replaced (job_of new) (jobs_of jobs)
    by true true e f is rest = let low = ltb-true job.id new.id e in let same = eqb-true job.id new.id f in absurd (omega (arith, low, same))
    by true false e f is rest =
        ap (λ (js : Jobs). job_of job ∷ js) (rest is) ∙ sym (ap (λ b. cond b (job_of new) (job_of job) ∷ model.with_replaced (job_of new) (jobs_of jobs)) (nat_eq_equiv.symm new.id job.id ∙ f))
    by false true e f is rest =
        let high : AllByRecursion (Above new.id) jobs = subst (λ n. AllByRecursion (Above n) jobs) (eqb-true job.id new.id f) up.0 in
        ap (λ (js : Jobs). job_of new ∷ js) (sym (unreplaced new jobs high))
        ∙ sym (ap (λ b. cond b (job_of new) (job_of job) ∷ model.with_replaced (job_of new) (jobs_of jobs)) (nat_eq_equiv.symm new.id job.id ∙ f))
    by false false e f is rest =
        let low = ltb-false job.id new.id e in
        let apart = eqb-false job.id new.id f in
        let below : new.id < job.id = grind (arith, low, apart) in
        let high : AllByRecursion (Above new.id) jobs = all_weaken (Above job.id) (Above new.id) (λ other over. omega arith) jobs up.0 in
        let clash : ◌≡◌ {A = Option JobParts} None (Some there) = sym (none_there new.id jobs high) ∙ is in
        absurd (cc clash)

-- One stored record is taken as the model takes its job.
one_taken : (jobs : List JobParts) (s : JobParts) → AreRising jobs → jobs_of (with_stored jobs s) ≡ model.take_in (job_of s) (job_with s.id (jobs_of jobs)) (jobs_of jobs)
one_taken jobs s up = by (record_with s.id jobs) refl
  where
    put : (b : Bool) (made : Jobs) → jobs_of (put_record s jobs) ≡ made → jobs_of (cond b (put_record s jobs) jobs) ≡ cond b made (jobs_of jobs)
    put true made is = is
    put false made is = refl

    by : (o : Option JobParts) → record_with s.id jobs ≡ o → jobs_of (with_stored jobs s) ≡ model.take_in (job_of s) (job_with s.id (jobs_of jobs)) (jobs_of jobs)
    by None is =
        ap (λ t. jobs_of (cond t (put_record s jobs) jobs)) (ap (λ o. takes o s) is)
        ∙ (put (model.is_taken_new (status_of s.status)) (put_job (job_of s) (jobs_of jobs)) (put_job_is s jobs is)
        ∙ sym (ap (λ o. model.take_in (job_of s) o (jobs_of jobs)) (looked s.id jobs ∙ ap (option_map job_of) is)))
    by (Some own) is =
        ap (λ t. jobs_of (cond t (put_record s jobs) jobs)) (ap (λ o. takes o s) is)
        ∙ (put (model.adopts (status_of own.status) (status_of s.status)) (model.with_replaced (job_of s) (jobs_of jobs)) (replaced_is s own jobs up is)
        ∙ sym (ap (λ o. model.take_in (job_of s) o (jobs_of jobs)) (looked s.id jobs ∙ ap (option_map job_of) is)))

pub rising_with : (jobs : List JobParts) (s : JobParts) → AreRising jobs → AreRising (with_stored jobs s)
rising_with jobs s up = by (takes (record_with s.id jobs) s)
  where
    by : (t : Bool) → AreRising (cond t (put_record s jobs) jobs)
    by true = rising_put s jobs up
    by false = up

pub merges_are : MergesAreTheModels
merges_are jobs [] up = refl
merges_are jobs (s ∷ stored) up = merges_are (with_stored jobs s) stored (rising_with jobs s up) ∙ ap (λ (js : Jobs). model.merged_jobs js (jobs_of stored)) (one_taken jobs s up)
