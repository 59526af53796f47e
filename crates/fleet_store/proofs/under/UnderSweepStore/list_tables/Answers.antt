use Rattle.fleet_store.proofs.Ends.{called_of}
use Rattle.fleet_store.proofs.under.UnderSweepStore.list_tables.Goals as goal

pub returns : goal.returns
returns g c = called_of _ _ c.args.self.now.store.now c.make_list_tables.new.self _ _ _ _ c.make_list_tables.result c.ended.result c.ended.ensures c.make_list_tables.ensures
