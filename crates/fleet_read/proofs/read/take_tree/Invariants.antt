use Rattle.std.proofs.Common.{◌++◌}
use Rattle.std.specs.List.{AllByRecursion}
use Rattle.fleet_read.specs.Stored.{IsHeldView}
use Rattle.fleet_read.proofs.Taken.{TakesLeft, views_of}
use Rattle.fleet_read.proofs.read.take_tree.Given as goal

-- The tables of the runs left are held, and whoever takes them as well takes all tables.
abbrev pub invariant-runs : goal.invariant-runs
invariant-runs l =
    AllByRecursion (IsHeldView l.store.world.store) (views_of l.run-iterator)
    × TakesLeft l.store.world.store l.key (l.tree.l0 ++ views_of l.tree.compacted) (views_of l.run-iterator) l.fn.read l.read
