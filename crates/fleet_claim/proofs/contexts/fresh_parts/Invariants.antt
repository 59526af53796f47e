use Rattle.std.proofs.Common.{◌≡◌, ◌++◌}
use Rattle.fleet_claim.specs.Contexts.{fresh_parts}
use Rattle.fleet_claim.proofs.contexts.fresh_parts.Given as goal

abbrev pub invariant-ranges-2 : goal.invariant-ranges-2
invariant-ranges-2 l = l.parts.items ++ fresh_parts l.range-iterator.rest.items ≡ fresh_parts l.fn.ranges.items
