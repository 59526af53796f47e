use Rattle.fleet_store.proofs.Ends.{called_of, nobody}
use Rattle.fleet_store.proofs.under.UnderStore.put_manifest.Goals as goal

pub returns : goal.returns
returns g c = called_of _ _ c.args.self.now.store.now c.make_put_manifest.new.self _ _ _ _ c.make_put_manifest.result c.ended.result c.ended.ensures c.make_put_manifest.ensures

pub make_put_manifest-requires : goal.make_put_manifest-requires
make_put_manifest-requires g c = c.requires.shown c.args.self.now.store.now.world (nobody _ c.args.self.now.store.now)
