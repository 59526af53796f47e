use Rattle.std.proofs.Common.{◌≡◌, ◌++◌}
use Rattle.std.specs.Prelude.{filter, flat_map}
use Rattle.fleet_model.specs.Jobs.{nodes_of}
use Rattle.fleet_jobs.specs.Jobs.{is_open, jobs_of}
use Rattle.fleet_level.proofs.used_nodes.add_used.Given as goal

abbrev pub invariant-jobs : goal.invariant-jobs
invariant-jobs l =
    l.used ++ flat_map (λ job. nodes_of job.spec) (jobs_of (filter is_open l.job-iterator))
    ≡ l.initial.used ++ flat_map (λ job. nodes_of job.spec) (jobs_of (filter is_open l.records.compactions.jobs))
