-- Live attempts, as a worker finds them.
use Rattle.std.proofs.Common.{◌≡◌, sym, ap, ℕ, List, Option, option_map}
use Rattle.fleet_model.specs.Work.Parties.{is_live, runs_attempt}
use Rattle.fleet_jobs.specs.Parts.JobParts.{JobParts}
use Rattle.fleet_jobs.specs.Jobs.{job_of, jobs_of}
use Rattle.fleet_book.specs.Records.{record_with}
use Rattle.fleet_book.proofs.ModelMerges.{looked}
use Rattle.fleet_worker.specs.Workers.{AttemptParts, attempt_of}

-- Whether an attempt is live is seen from the job that was found alone.
pub found_live : (jobs : List JobParts) (worker id number : ℕ) (a : AttemptParts) (found : Option JobParts) → id ≡ a.job → number ≡ a.number → found ≡ record_with id jobs
    → runs_attempt worker number (option_map job_of found) ≡ is_live (jobs_of jobs) worker (attempt_of a)
found_live jobs worker id number a found at one is = rw (is, at, one) (ap (runs_attempt worker a.number) (sym (looked a.job jobs)))
