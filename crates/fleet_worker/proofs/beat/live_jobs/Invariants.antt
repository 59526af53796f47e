use Rattle.std.proofs.Common.{◌≡◌, take}
use Rattle.fleet_worker.specs.Beats.{live_ids}
use Rattle.fleet_worker.proofs.beat.live_jobs.Given as goal

abbrev pub invariant-attempts : goal.invariant-attempts
invariant-attempts l = l.jobs.items ≡ live_ids l.records.jobs l.worker (take l.attempt-index l.attempts)
