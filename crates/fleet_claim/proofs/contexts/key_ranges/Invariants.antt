use Rattle.std.proofs.Common.{◌≡◌, map, take}
use Rattle.fleet_claim.proofs.contexts.key_ranges.Given as goal

abbrev pub invariant-parts : goal.invariant-parts
invariant-parts l = l.ranges.items ≡ map (λ part. part.range) (take l.part-index l.parts)
