use Rattle.std.proofs.Common.{drop, take}
use Rattle.fleet_coordinator.proofs.NewJobs.{AddedSome}
use Rattle.fleet_coordinator.proofs.submission.add_jobs.Given as goal

-- So far the jobs in front were added.
abbrev pub invariant-jobs : goal.invariant-jobs
invariant-jobs l = AddedSome l.initial.records l.records (take l.new-index l.named) (drop l.new-index l.named)
