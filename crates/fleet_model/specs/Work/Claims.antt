-- A claim takes waiting jobs for a worker, and stops the waiting jobs that the worker still runs.
use Rattle.std.specs.Prelude.{ℕ, ◌+◌, ◌-◌, Bool, true, not, ◌&&◌, ◌||◌, filter, take, length, Option, Some, None, is_none}
use Rattle.fleet_model.specs.Jobs.{Release, knows_cut, Context, Job, Jobs, Scheduled, has_status, contains}
use Rattle.fleet_model.specs.Work.Parties.{Attempt, LiveWorker, attempt_jobs}
use Rattle.fleet_model.specs.Work.Attempts.{ClaimInput, attempt_context}

-- True if the job waits for a worker: it is Scheduled and no worker has it.
abbrev pub is_waiting : Job → Bool
is_waiting job = has_status Scheduled job && is_none job.lease

-- The waiting jobs that the worker still runs, which a claim stops.
abbrev pub stopped_jobs : LiveWorker → Jobs → Jobs
stopped_jobs w jobs = filter (λ job. is_waiting job && contains (attempt_jobs w.attempts) job.id) jobs

-- True if there is no context, or the context has no cut.
abbrev pub has_no_cut : Option Context → Bool
has_no_cut None = true
has_no_cut (Some context) = not context.has_cut

-- True if a worker of this release may take the job. A worker of release 1 may take no job whose context
-- has a cut.
abbrev pub may_take : Release → Job → Bool
may_take release job = knows_cut release || has_no_cut job.context

-- The jobs that a claim takes: the first waiting jobs that the worker does not run and may take. They are
-- at most as many as the slots that were free when the claim began.
abbrev pub claimed_jobs : ℕ → LiveWorker → Jobs → Jobs
claimed_jobs slots w jobs =
    take (slots - length w.attempts)
    (filter (λ job. is_waiting job && not (contains (attempt_jobs w.attempts) job.id) && may_take w.release job) jobs)

-- The attempt at the job that a claim begins.
abbrev pub claimed_attempt : ClaimInput → Job → Attempt
claimed_attempt input job = record {
  job = job.id;
  number = job.attempt + 1;
  sources = job.source_tables;
  context = attempt_context input job;
}
