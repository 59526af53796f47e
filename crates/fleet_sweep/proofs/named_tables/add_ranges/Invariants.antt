use Rattle.std.proofs.Common.{◌≡◌, ◌++◌, take}
use Rattle.fleet_sweep.specs.Named.{ids_in_ranges}
use Rattle.fleet_sweep.proofs.named_tables.add_ranges.Given as goal

abbrev pub invariant-parts : goal.invariant-parts
invariant-parts l = l.ids.items ≡ l.initial.ids.items ++ ids_in_ranges (take l.range-index l.ranges)
