use Rattle.std.specs.List.{AllByRecursion}
use Rattle.fleet_read.specs.Stored.{IsHeldView}
use Rattle.fleet_read.proofs.Taken.{TakesLeft}
use Rattle.fleet_read.proofs.read.take_tables.Given as goal

-- The tables of the views left are held, and whoever takes them as well takes all tables.
abbrev pub invariant-views : goal.invariant-views
invariant-views l = AllByRecursion (IsHeldView l.store.world.store) l.view-iterator × TakesLeft l.store.world.store l.key l.fn.views l.view-iterator l.initial.read l.read
