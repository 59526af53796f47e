use Rattle.std.proofs.Common.{◌≡◌, take}
use Rattle.fleet_claim.proofs.contexts.copies.Given as goal

abbrev pub invariant-parts : goal.invariant-parts
invariant-parts l = l.copies.items ≡ take l.part-index l.parts
