use Rattle.std.proofs.Common.{◌≡◌, take}
use Rattle.fleet_worker.specs.Releases.{live_named}
use Rattle.fleet_worker.proofs.attempt.live_attempts.Given as goal

abbrev pub invariant-attempts : goal.invariant-attempts
invariant-attempts l = l.live.items ≡ live_named l.records.jobs l.worker (take l.attempt-index l.attempts)
