use Rattle.std.proofs.Common.{◌≡◌, take}
use Rattle.fleet_tree.proofs.list.copies.Given as goal

abbrev pub invariant-items : goal.invariant-items
invariant-items g l = l.copies.items ≡ take l.item-index l.items
