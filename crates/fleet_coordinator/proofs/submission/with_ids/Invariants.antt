use Rattle.std.proofs.Common.{◌≡◌, take}
use Rattle.std.specs.List.{zip}
use Rattle.fleet_coordinator.proofs.submission.with_ids.Given as goal

abbrev pub invariant-places : goal.invariant-places
invariant-places l = l.named.items ≡ zip (take l.place l.ids) (take l.place l.specs)
