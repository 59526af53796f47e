use Rattle.std.proofs.Common.{◌≡◌, take}
use Rattle.fleet_jobs.specs.Jobs.{jobs_of}
use Rattle.fleet_jobs.specs.Places.{held_nodes}
use Rattle.fleet_jobs.proofs.rules.held_nodes.Given as goal

abbrev pub invariant-jobs : goal.invariant-jobs
invariant-jobs l = l.nodes ≡ held_nodes (jobs_of (take l.job-index l.jobs)) l.lost
