use Rattle.std.proofs.Common.{◌≡◌, take}
use Rattle.fleet_jobs.specs.Jobs.{jobs_of}
use Rattle.fleet_jobs.specs.Places.{held_nodes}
use Rattle.fleet_gates.specs.Held.{others}
use Rattle.fleet_gates.proofs.held_nodes.held_by_others.Given as goal

abbrev pub invariant-jobs : goal.invariant-jobs
invariant-jobs l = l.held ≡ held_nodes (others l.id (jobs_of (take l.job-index l.jobs))) l.lost
