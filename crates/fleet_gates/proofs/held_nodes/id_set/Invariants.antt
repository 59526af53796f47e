use Rattle.std.proofs.Common.{take}
use Rattle.fleet_gates.specs.Held.{HasIds}
use Rattle.fleet_gates.proofs.held_nodes.id_set.Given as goal

abbrev pub invariant-ids : goal.invariant-ids
invariant-ids l = HasIds l.set (take l.id-index l.ids)
