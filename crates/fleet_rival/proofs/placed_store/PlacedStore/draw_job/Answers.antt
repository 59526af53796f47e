use Rattle.fleet_rival.specs.Placed.{place_of, store_of}
use Rattle.fleet_rival.proofs.Places.{placed}
use Rattle.fleet_rival.proofs.placed_store.PlacedStore.draw_job.Goals as goal

pub returns : goal.returns
returns g c = placed (place_of c.args.self.now) (g.S.Store.view (store_of c.args.self.now)) (g.S.Store.view c.draw_job.new.self) _ _ _ c.draw_job.result c.draw_job.ensures
