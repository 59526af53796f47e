use Rattle.std.proofs.Common.{◌≡◌, ◌++◌}
use Rattle.std.specs.Prelude.{flat_map, Some}
use Rattle.fleet_jobs.specs.Jobs.{job_of}
use Rattle.fleet_poll.specs.Loops.{nodes_held}
use Rattle.fleet_poll.proofs.judging.reserved_nodes.Given as goal

abbrev pub invariant-jobs : goal.invariant-jobs
invariant-jobs l = l.held ++ flat_map (λ job. nodes_held (Some (job_of job))) l.job-iterator ≡ flat_map (λ job. nodes_held (Some (job_of job))) l.records.compactions.jobs
