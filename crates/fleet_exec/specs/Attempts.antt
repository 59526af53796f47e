-- Active jobs as the attempts of a worker.
use Rattle.std.specs.Prelude.{◌≡◌, ℕ, List, [], ◌∷◌, map, option_map}
use Rattle.fleet_model.specs.Work.Parties.{Attempt, attempt_at, put_attempt, without_attempts}
use Rattle.fleet_exec.specs.ExecutorParts.{ActiveParts}
use Rattle.fleet_exec.specs.Executors.{active_job_with, put_job, without_job}

-- Attempts are seen of these jobs, one of each. They are looked up, put and taken out as the jobs are.
pub record FollowJobs (attempt_of : ActiveParts → Attempt) (jobs : List ActiveParts) : Type 0 where
  pub found : (id : ℕ) → attempt_at id (map attempt_of jobs) ≡ option_map attempt_of (active_job_with id jobs)
  pub put : (job : ActiveParts) → put_attempt (attempt_of job) (map attempt_of jobs) ≡ map attempt_of (put_job job jobs)
  pub taken_out : (id : ℕ) → without_attempts (id ∷ []) (map attempt_of jobs) ≡ map attempt_of (without_job id jobs)

-- If an attempt has the id of its job, the attempts follow the jobs.
abbrev pub AttemptsFollowJobs : Type 0
AttemptsFollowJobs = (attempt_of : ActiveParts → Attempt) → ((job : ActiveParts) → (attempt_of job).job ≡ job.args.id)
    → (jobs : List ActiveParts) → FollowJobs attempt_of jobs
