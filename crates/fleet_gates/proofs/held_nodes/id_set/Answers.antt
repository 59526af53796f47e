use Rattle.fleet_gates.proofs.HeldNodes.{ids_more}
use Rattle.fleet_gates.proofs.held_nodes.id_set.Goals as goal

pub ids-preserved : goal.ids-preserved
ids-preserved c = λ other.
    ids_more c.args.ids.now c.ids.id-index c.id-item.result _ _ other c.ids-test.true c.id-item.is (c.ids.invariant other) (c.in_ok-add_id.ensures other)
