use Rattle.std.proofs.Common.{◌≡◌, take}
use Rattle.fleet_claim.specs.Puts.{next_numbers}
use Rattle.fleet_claim.proofs.put.next_attempts.Given as goal

abbrev pub invariant-jobs : goal.invariant-jobs
invariant-jobs l = l.attempts.items ≡ next_numbers (take l.job-index l.jobs)
