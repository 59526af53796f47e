use Rattle.fleet_rival.specs.Placed.{place_of, store_of}
use Rattle.fleet_rival.proofs.Places.{manifest_inside, placed}
use Rattle.fleet_rival.proofs.placed_store.PlacedStore.put_manifest.Goals as goal

pub returns : goal.returns
returns g c = placed (place_of c.args.self.now) (g.S.Store.view (store_of c.args.self.now)) (g.S.Store.view c.put_manifest.new.self) _ _ _ c.put_manifest.result c.put_manifest.ensures

pub put_manifest-requires : goal.put_manifest-requires
put_manifest-requires g c = manifest_inside (place_of c.args.self.now) (g.S.Store.view (store_of c.args.self.now)) c.args.version c.args.value c.args.why _ c.requires
