use Rattle.fleet_rival.specs.Placed.{place_of, store_of}
use Rattle.fleet_rival.proofs.Places.{gets_placed}
use Rattle.fleet_rival.proofs.placed_store.PlacedStore.get_records.Goals as goal

pub returns : goal.returns
returns g c = gets_placed (place_of c.args.self.now) (g.S.Store.view (store_of c.args.self.now)) (g.S.Store.view c.get_records.new.self) c.get_records.result c.get_records.ensures
