-- Which jobs a claim takes, and which it stops.
use Rattle.std.specs.Prelude.{◌≡◌, ℕ, ◌-◌, ◌&&◌, Bool, not, List, filter, length, map, take}
use Rattle.fleet_model.specs.Work.Claims.{claimed_jobs, is_waiting, may_take, stopped_jobs}
use Rattle.fleet_model.specs.Jobs as model
use Rattle.fleet_model.specs.Jobs.{Job, contains, ids}
use Rattle.fleet_model.specs.Work.Parties.{LiveWorker, attempt_jobs}
use Rattle.fleet_jobs.specs.Parts.JobParts.{JobParts}
use Rattle.fleet_jobs.specs.Jobs.{job_of, jobs_of}
use Rattle.fleet_jobs.specs.Workers.{release_of}
use Rattle.fleet_jobs.specs.declared.release.Release.{Release}

-- True if a worker that runs these jobs takes the job, if it has a free slot.
abbrev pub is_taken : List ℕ → model.Release → Job → Bool
is_taken running release job = is_waiting job && not (contains running job.id) && may_take release job

-- True if the job waits, although the worker runs it.
abbrev pub is_stopped : List ℕ → Job → Bool
is_stopped running job = is_waiting job && contains running job.id

-- The records of the jobs that a worker takes, and the ids of those that it stops.
abbrev pub taken_records : (slots : ℕ) (running : List ℕ) (release : Release) (jobs : List JobParts) → List JobParts
taken_records slots running release jobs =
    take (slots - length running) (filter (λ job. is_taken running (release_of release) (job_of job)) jobs)

abbrev pub stopped_ids : List ℕ → List JobParts → List ℕ
stopped_ids running jobs = map (λ job. job.id) (filter (λ job. is_stopped running (job_of job)) jobs)

-- The model's worker runs these jobs and has this release.
pub record IsWorker (running : List ℕ) (release : Release) (w : LiveWorker) : Type 0 where
  pub runs : attempt_jobs w.attempts ≡ running
  pub of_release : w.release ≡ release_of release

-- The records are those of the jobs that the model's worker claims.
pub record AreClaimed (slots : ℕ) (running : List ℕ) (release : Release) (jobs these : List JobParts) : Type 0 where
  pub records : these ≡ taken_records slots running release jobs
  pub model : (w : LiveWorker) → IsWorker running release w → jobs_of these ≡ claimed_jobs slots w (jobs_of jobs)

-- The ids are those of the jobs that the claim of the model's worker stops.
pub record AreStopped (running : List ℕ) (jobs : List JobParts) (these : List ℕ) : Type 0 where
  pub records : these ≡ stopped_ids running jobs
  pub model : (w : LiveWorker) → attempt_jobs w.attempts ≡ running → these ≡ ids (stopped_jobs w (jobs_of jobs))
