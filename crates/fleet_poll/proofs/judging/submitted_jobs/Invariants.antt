use Rattle.std.proofs.Common.{◌≡◌, ◌++◌}
use Rattle.std.specs.Prelude.{filter}
use Rattle.fleet_jobs.specs.Jobs.{job_ids}
use Rattle.fleet_poll.specs.Loops.{is_submitted}
use Rattle.fleet_poll.proofs.judging.submitted_jobs.Given as goal

abbrev pub invariant-jobs : goal.invariant-jobs
invariant-jobs l = l.ids ++ job_ids (filter is_submitted l.job-iterator) ≡ job_ids (filter is_submitted l.records.compactions.jobs)
