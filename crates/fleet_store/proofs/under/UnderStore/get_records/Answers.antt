use Rattle.fleet_store.proofs.Ends.{gets_records}
use Rattle.fleet_store.proofs.under.UnderStore.get_records.Goals as goal

pub returns : goal.returns
returns g c = gets_records _ _ c.args.self.now.store.now c.make_get_records.new.self c.make_get_records.result c.ended.result c.ended.ensures c.make_get_records.ensures.made c.make_get_records.ensures.whole
