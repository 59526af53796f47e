use Rattle.std.proofs.Common.{◌≡◌, take}
use Rattle.fleet_claim.proofs.beginning.copied.Given as goal

abbrev pub invariant-ids : goal.invariant-ids
invariant-ids l = l.copy.items ≡ take l.id-index l.ids
