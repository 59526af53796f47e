use Rattle.std.proofs.Common.{◌≡◌, ◌++◌, take}
use Rattle.fleet_sweep.specs.Named.{ids_in_outputs}
use Rattle.fleet_sweep.proofs.named_tables.add_outputs.Given as goal

abbrev pub invariant-outputs : goal.invariant-outputs
invariant-outputs l = l.ids.items ≡ l.initial.ids.items ++ ids_in_outputs (take l.tables-index l.outputs)
