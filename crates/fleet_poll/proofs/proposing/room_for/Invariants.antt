use Rattle.std.proofs.Common.{◌≡◌}
use Rattle.std.specs.Prelude.{◌-◌, count_by}
use Rattle.fleet_model.specs.Jobs.{Running, has_status}
use Rattle.fleet_jobs.specs.Jobs.{jobs_of}
use Rattle.fleet_poll.proofs.proposing.room_for.Given as goal

abbrev pub invariant-jobs : goal.invariant-jobs
invariant-jobs l = l.room - count_by (has_status Running) (jobs_of l.job-iterator) ≡ l.most - count_by (has_status Running) (jobs_of l.records.compactions.jobs)
