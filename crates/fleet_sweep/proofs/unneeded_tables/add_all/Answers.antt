use Rattle.fleet_sweep.proofs.Chosen.{one_more}
use Rattle.fleet_sweep.proofs.unneeded_tables.add_all.Goals as goal

pub ids-preserved : goal.ids-preserved
ids-preserved c = λ id. one_more c.args.ids.now c.ids.id-index c.id-item.result id _ _ _ c.ids-test.true c.id-item.is (c.ids.invariant id) (c.in_ok-add.ensures id)
