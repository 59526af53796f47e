use Rattle.std.proofs.Common.{◌≡◌, map, take}
use Rattle.fleet_poll.proofs.poll.with_rule.Given as goal

abbrev pub invariant-places : goal.invariant-places
invariant-places l = l.dropped ≡ map (λ place. (place, 9)) (take l.place-index l.places)
