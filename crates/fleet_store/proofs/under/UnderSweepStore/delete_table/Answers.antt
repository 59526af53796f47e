use Rattle.fleet_store.proofs.Ends.{called_of}
use Rattle.fleet_store.proofs.under.UnderSweepStore.delete_table.Goals as goal

pub returns : goal.returns
returns g c = called_of _ _ c.args.self.now.store.now c.make_delete_table.new.self _ _ _ _ c.make_delete_table.result c.ended.result c.ended.ensures c.make_delete_table.ensures
