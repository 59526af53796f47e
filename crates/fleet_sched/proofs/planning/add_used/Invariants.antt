use Rattle.std.proofs.Common.{◌≡◌, ◌++◌}
use Rattle.std.specs.Prelude.{filter}
use Rattle.fleet_jobs.specs.Jobs.{is_open, jobs_of}
use Rattle.sched_model.specs.SizeTiered.{nodes_used}
use Rattle.fleet_sched.proofs.planning.add_used.Given as goal

abbrev pub invariant-jobs : goal.invariant-jobs
invariant-jobs l =
    l.used ++ nodes_used (jobs_of (filter is_open l.job-iterator)) l.segment ≡ l.initial.used ++ nodes_used (jobs_of (filter is_open l.records.compactions.jobs)) l.segment
