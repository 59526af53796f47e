use Rattle.std.proofs.Common.{◌≡◌}
use Rattle.std.specs.Cmp.Lexicographic.{pointwise}
use Rattle.fleet_change.proofs.same_manifest.are_same.Given as goal

-- What is left says whether all are the same.
abbrev pub invariant-these : goal.invariant-these
invariant-these g l = pointwise g.T.Same.same l.this-iterator l.left ≡ pointwise g.T.Same.same l.fn.these l.fn.others
