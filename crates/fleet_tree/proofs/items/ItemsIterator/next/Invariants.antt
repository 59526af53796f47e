use Rattle.std.proofs.Common.{◌≡◌, ◌++◌, length}
use Rattle.fleet_tree.specs.Lists.{joined}
use Rattle.fleet_tree.proofs.items.ItemsIterator.next.Given as goal

abbrev pub invariant-chunks : goal.invariant-chunks
invariant-chunks g l = l.self-inside.first.now ++ joined l.self-inside.chunks.now ≡ l.initial.self-inside.first.now ++ joined l.initial.self-inside.chunks.now

abbrev pub decreases-chunks : goal.decreases-chunks
decreases-chunks g l = length l.self-inside.chunks.now
