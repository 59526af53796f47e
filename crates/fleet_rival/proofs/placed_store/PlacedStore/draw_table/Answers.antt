use Rattle.fleet_rival.specs.Placed.{place_of, store_of}
use Rattle.fleet_rival.proofs.Places.{placed}
use Rattle.fleet_rival.proofs.placed_store.PlacedStore.draw_table.Goals as goal

pub returns : goal.returns
returns g c = placed (place_of c.args.self.now) (g.S.Store.view (store_of c.args.self.now)) (g.S.Store.view c.draw_table.new.self) _ _ _ c.draw_table.result c.draw_table.ensures
