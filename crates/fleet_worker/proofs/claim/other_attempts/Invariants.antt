use Rattle.std.proofs.Common.{◌≡◌, take}
use Rattle.fleet_worker.specs.Claims.{without_parts}
use Rattle.fleet_worker.proofs.claim.other_attempts.Given as goal

abbrev pub invariant-attempts : goal.invariant-attempts
invariant-attempts l = l.kept.items ≡ without_parts l.stopped (take l.attempt-index l.attempts)
