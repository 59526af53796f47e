-- The records that a claim puts are the model's.
use Rattle.std.proofs.Common.{◌≡◌, refl, sym, ◌∙◌, ap, subst, ℕ, Bool, true, false, cond, List, [], ◌∷◌, ◌||◌}
use Rattle.std.specs.Prelude.{◌==◌, map, flat_map}
use Rattle.std.specs.List.{AllByRecursion}
use Rattle.fleet_model.specs.Jobs.{changed_jobs, contains, trimmed_jobs}
use Rattle.fleet_model.specs.Work.Records.{claimed_by, firsts}
use Rattle.fleet_jobs.specs.Parts.JobParts.{JobParts}
use Rattle.fleet_jobs.specs.Jobs.{job_handles, job_of, jobs_of}
use Rattle.fleet_book.specs.Records.{AreRising, kept_records}
use Rattle.fleet_book.specs.declared.compactions.Compactions.{Compactions}
use Rattle.fleet_store.specs.Records.{DescribeTables}
use Rattle.fleet_store.proofs.Described.{kept_describe}
use Rattle.fleet_claim.specs.Puts.{ClaimsRecords, claimed_record, is_named, taken_record}
use Rattle.fleet_claim.proofs.Lists.{rising_map}

pub named_contains : (attempts : List (ℕ × ℕ)) (job : ℕ) → is_named attempts job ≡ contains (firsts attempts) job
named_contains [] job = refl
named_contains (a ∷ attempts) job = by (a.0 == job) (named_contains attempts job)
  where
    by : (b : Bool) → is_named attempts job ≡ contains (firsts attempts) job → (b || is_named attempts job) ≡ cond b true (contains (firsts attempts) job)
    by true rest = refl
    by false rest = rest

module _ (worker moment : ℕ) (attempts : List (ℕ × ℕ)) where
  abbrev claimed : JobParts → JobParts
  claimed = claimed_record worker moment attempts

  same_id : (job : JobParts) → (claimed job).id ≡ job.id
  same_id job = by (is_named attempts job.id)
    where
      by : (b : Bool) → (cond b (taken_record worker moment job) job).id ≡ job.id
      by true = refl
      by false = refl

  same_handles : (job : JobParts) → job_handles (claimed job) ≡ job_handles job
  same_handles job = by (is_named attempts job.id)
    where
      by : (b : Bool) → job_handles (cond b (taken_record worker moment job) job) ≡ job_handles job
      by true = refl
      by false = refl

  model_job : (job : JobParts) → job_of (claimed job) ≡ cond (contains (firsts attempts) job.id) (claimed_by worker moment (job_of job)) (job_of job)
  model_job job = by (is_named attempts job.id) ∙ ap (λ b. cond b (claimed_by worker moment (job_of job)) (job_of job)) (named_contains attempts job.id)
    where
      by : (b : Bool) → job_of (cond b (taken_record worker moment job) job) ≡ cond b (claimed_by worker moment (job_of job)) (job_of job)
      by true = refl
      by false = refl

  model_jobs : (jobs : List JobParts) → jobs_of (map claimed jobs) ≡ changed_jobs (claimed_by worker moment) (firsts attempts) (jobs_of jobs)
  model_jobs [] = refl
  model_jobs (job ∷ jobs) = rw (model_job job, model_jobs jobs) refl

  all_handles : (jobs : List JobParts) → flat_map job_handles (map claimed jobs) ≡ flat_map job_handles jobs
  all_handles [] = refl
  all_handles (job ∷ jobs) = rw (same_handles job, all_handles jobs) refl

  pub still_rising : (jobs : List JobParts) → AreRising jobs → AreRising (map claimed jobs)
  still_rising = rising_map claimed same_id

  pub claims_records : (old new : Compactions) (put : List JobParts) → put ≡ map claimed old.jobs → new.compactor_epoch ≡ old.compactor_epoch → new.jobs ≡ kept_records put → jobs_of new.jobs ≡ trimmed_jobs (jobs_of put)
      → ClaimsRecords worker moment attempts old new
  claims_records old new put is epoch kept trim = record {
    jobs = trim ∙ ap trimmed_jobs (ap jobs_of is ∙ model_jobs old.jobs);
    epoch = epoch;
    described = λ store all.
        subst (λ jobs. DescribeTables jobs store) (sym (kept ∙ ap kept_records is)) (kept_describe (map claimed old.jobs) store (subst (AllByRecursion _) (sym (all_handles old.jobs)) all));
  }
