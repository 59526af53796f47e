use Rattle.std.proofs.Common.{◌≡◌}
use Rattle.std.specs.Cmp.Lexicographic.{pointwise}
use Rattle.fleet_tree.proofs.items.are_equal.Given as goal

-- What is left says whether all are equal.
abbrev pub invariant-items : goal.invariant-items
invariant-items g l = pointwise g.T.PartialEq.eq l.item-iterator l.others ≡ pointwise g.T.PartialEq.eq l.fn.items l.fn.others
