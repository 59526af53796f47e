use Rattle.std.proofs.Common.{refl}
use Rattle.fleet_store.proofs.Later.{got_manifest}
use Rattle.fleet_rival.proofs.Again.{put_of_fits}
use Rattle.fleet_tests.proofs.rivals.refuses_manifest.Goals as goal

pub put_manifest-put-requires : goal.put_manifest-put-requires
put_manifest-put-requires g c =
    put_of_fits (g.S.Store.view c.get_manifest.new.self) c.in_ok-got.got c.in_ok-got.got.manifest c.new.result
    (got_manifest (g.S.Store.view c.args.store.now) (g.S.Store.view c.get_manifest.new.self) c.in_ok-got.got c.in_ok-got.ensures) refl c.new.ensures
