use Rattle.fleet_rival.specs.Placed.{place_of, store_of}
use Rattle.fleet_rival.proofs.Places.{puts_placed, records_inside}
use Rattle.fleet_rival.proofs.placed_store.PlacedStore.put_records.Goals as goal

pub returns : goal.returns
returns g c = puts_placed (place_of c.args.self.now) (g.S.Store.view (store_of c.args.self.now)) (g.S.Store.view c.put_records.new.self) c.args.version c.args.value c.args.why c.put_records.result c.put_records.ensures

pub put_records-requires : goal.put_records-requires
put_records-requires g c = records_inside (place_of c.args.self.now) (g.S.Store.view (store_of c.args.self.now)) c.args.version c.args.value c.args.why c.requires
