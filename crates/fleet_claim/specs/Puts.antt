-- The records that a claim puts.
use Rattle.std.specs.Prelude.{◌≡◌, ◌==◌, ◌+◌, ℕ, Bool, if◌then◌else◌, List, map}
use Rattle.std.specs.List.{list_any}
use Rattle.fleet_model.specs.History as model
use Rattle.fleet_model.specs.Work.Records.{jobs_after}
use Rattle.fleet_model.specs.Store.{Store}
use Rattle.step_model.specs.Steps.ClaimSteps.{at_moment}
use Rattle.fleet_jobs.specs.Parts.JobParts.{JobParts}
use Rattle.fleet_jobs.specs.Jobs.{jobs_of, with_status}
use Rattle.fleet_jobs.specs.Laws.{worker_at}
use Rattle.fleet_jobs.specs.declared.status.CompactionStatus.TheVariants.{Running}
use Rattle.fleet_book.specs.declared.compactions.Compactions.{Compactions}
use Rattle.fleet_store.specs.Records.{DescribeTables}

-- The attempts with which a claim goes on with these jobs, each by its job and its number.
abbrev pub next_numbers : List JobParts → List (ℕ × ℕ)
next_numbers jobs = map (λ job. (job.id, job.attempt + 1)) jobs

-- True if one of these attempts is at the job.
abbrev pub is_named : List (ℕ × ℕ) → ℕ → Bool
is_named attempts job = list_any (λ a. a.0 == job) attempts

-- The record of a job that is Running with the worker at its next attempt.
abbrev pub taken_record : (worker moment : ℕ) → JobParts → JobParts
taken_record worker moment job =
    record (with_status Running job) { worker = worker_at worker moment; attempt = job.attempt + 1 }

-- The record of the job, claimed if one of these attempts is at it.
abbrev pub claimed_record : (worker moment : ℕ) → List (ℕ × ℕ) → JobParts → JobParts
claimed_record worker moment attempts job = if is_named attempts job.id then taken_record worker moment job else job

-- The records have the model's jobs after the claim, keep the epoch, and describe no other tables.
pub record ClaimsRecords (worker moment : ℕ) (attempts : List (ℕ × ℕ)) (old new : Compactions) : Type 0 where
  pub jobs : jobs_of new.jobs ≡ jobs_after (at_moment moment) (model.Claim worker attempts) (jobs_of old.jobs)
  pub epoch : new.compactor_epoch ≡ old.compactor_epoch
  pub described : (store : Store) → DescribeTables old.jobs store → DescribeTables new.jobs store
