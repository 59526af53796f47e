use Rattle.std.proofs.Common.{◌≡◌, ◌++◌, take}
use Rattle.fleet_worker.specs.Held.{noted_in}
use Rattle.fleet_worker.proofs.held_tables.add_ranges.Given as goal

abbrev pub invariant-parts : goal.invariant-parts
invariant-parts l = l.ids.items ≡ l.initial.ids.items ++ noted_in (take l.range-index l.ranges)
