use Rattle.fleet_store.proofs.Ends.{called_of}
use Rattle.fleet_store.proofs.under.UnderStore.get_table.Goals as goal

pub returns : goal.returns
returns g c = called_of _ _ c.args.self.now.store.now c.make_get_table.new.self _ _ _ _ c.make_get_table.result c.ended.result c.ended.ensures c.make_get_table.ensures
