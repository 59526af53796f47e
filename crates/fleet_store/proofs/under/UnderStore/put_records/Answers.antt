use Rattle.fleet_store.proofs.Ends.{nobody, puts_records}
use Rattle.fleet_store.proofs.under.UnderStore.put_records.Goals as goal

pub returns : goal.returns
returns g c = puts_records _ _ c.args.self.now.store.now c.make_put_records.new.self c.args.version c.args.value c.args.why c.make_put_records.result c.ended.result c.ended.ensures c.make_put_records.ensures

pub make_put_records-requires : goal.make_put_records-requires
make_put_records-requires g c = c.requires.shown c.args.self.now.store.now.world (nobody _ c.args.self.now.store.now)
