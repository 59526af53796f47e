use Rattle.std.proofs.Common.{◌≡◌, ◌++◌, take}
use Rattle.fleet_sweep.specs.Named.{ids_in_trees}
use Rattle.fleet_sweep.proofs.named_tables.add_segments.Given as goal

abbrev pub invariant-segments : goal.invariant-segments
invariant-segments l = l.ids.items ≡ l.initial.ids.items ++ ids_in_trees (take l.segment-index l.segments)
