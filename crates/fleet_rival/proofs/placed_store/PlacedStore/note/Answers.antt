use Rattle.fleet_rival.specs.Placed.{place_of, store_of}
use Rattle.fleet_rival.proofs.Places.{placed}
use Rattle.fleet_rival.proofs.placed_store.PlacedStore.note.Goals as goal

pub returns : goal.returns
returns g c = placed (place_of c.args.self.now) (g.S.Store.view (store_of c.args.self.now)) (g.S.Store.view c.note.new.self) _ _ _ c.note.result c.note.ensures
