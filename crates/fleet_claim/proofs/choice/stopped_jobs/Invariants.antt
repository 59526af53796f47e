use Rattle.std.proofs.Common.{◌≡◌, take}
use Rattle.fleet_claim.specs.Choices.{stopped_ids}
use Rattle.fleet_claim.proofs.choice.stopped_jobs.Given as goal

abbrev pub invariant-jobs : goal.invariant-jobs
invariant-jobs l = l.stopped.items ≡ stopped_ids l.running (take l.job-index l.jobs)
