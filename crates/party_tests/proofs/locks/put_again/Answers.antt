use Rattle.std.proofs.Common.{◌∙◌, refl}
use Rattle.fleet_store.proofs.Later.{got_manifest}
use Rattle.fleet_rival.proofs.Again.{put_of_fits}
use Rattle.party_tests.proofs.locks.put_again.Goals as goal

pub put_manifest-requires : goal.put_manifest-requires
put_manifest-requires g c =
    put_of_fits (g.S.Store.view c.get_manifest.new.self) c.in_ok-got.got c.in_ok-got.got.manifest c.new.result
    (got_manifest (g.S.Store.view c.args.store.now) (g.S.Store.view c.get_manifest.new.self) c.in_ok-got.got c.in_ok-got.ensures) refl c.new.ensures

pub returns : goal.returns
returns g c = let a = c.in_ok-got.ensures.same in let b = c.put_manifest.ensures.same in record { who = b.who ∙ a.who; lent = b.lent ∙ a.lent; place = b.place ∙ a.place }
