use Rattle.std.proofs.Common.{◌≡◌, map}
use Rattle.fleet_worker.specs.Claims.{next_parts, parts_of, with_parts}
use Rattle.fleet_worker.proofs.claim.attempts_after.Given as goal

-- What is left, inserted, gives all.
abbrev pub invariant-begun : goal.invariant-begun
invariant-begun l = with_parts (map parts_of l.attempt-iterator.rest.items) l.next.items ≡ next_parts l.fn.stopped l.fn.begun.items l.fn.attempts
