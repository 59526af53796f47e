use Rattle.std.proofs.Common.{◌≡◌, ◌++◌}
use Rattle.std.specs.Prelude.{filter}
use Rattle.fleet_model.specs.Jobs.{ids, is_stale}
use Rattle.fleet_jobs.specs.Jobs.{jobs_of}
use Rattle.fleet_poll.proofs.freeing.stale_jobs.Given as goal

abbrev pub invariant-jobs : goal.invariant-jobs
invariant-jobs l =
    l.stale ++ ids (filter (is_stale l.timeout l.moment) (jobs_of l.job-iterator)) ≡ ids (filter (is_stale l.timeout l.moment) (jobs_of l.records.compactions.jobs))
