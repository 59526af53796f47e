use Rattle.std.proofs.Common.{◌≡◌, take}
use Rattle.fleet_worker.specs.Held.{all_held}
use Rattle.fleet_worker.proofs.held_tables.all_held.Given as goal

abbrev pub invariant-attempts : goal.invariant-attempts
invariant-attempts l = l.ids.items ≡ all_held (take l.attempt-index l.attempts)
