use Rattle.std.proofs.Common.{subst}
use Rattle.fleet_store.specs.Memory.{StoreParts}
use Rattle.fleet_store.specs.Manifests.{IsManifest}
use Rattle.fleet_store.specs.Under.{lent_of, store_of}
use Rattle.fleet_rival.proofs.Again.{manifest_came, manifest_fits_world, still_whole}
use Rattle.fleet_rival.proofs.rival.put_manifest_again.Goals as goal

pub put_manifest-put-requires : goal.put_manifest-put-requires
put_manifest-put-requires c =
    let is : IsManifest c.manifest-stored.result.now (store_of c.args.under.now).world.store = subst (λ (l : StoreParts). IsManifest c.manifest-stored.result.now l.world.store) c.store.ensures c.manifest-stored.ensures in
    manifest_fits_world (store_of c.args.under.now) (store_of c.set_actor.new.self) c.args.line c.other.result c.set_actor.ensures.store (lent_of c.set_actor.new.self) (lent_of c.set_actor.new.self)
    c.manifest-stored.result.now c.in_ok-value.value c.new.result is c.in_ok-value.ensures.copy c.new.ensures

pub returns-clause-rivals : goal.returns-clause-rivals
returns-clause-rivals c =
    let is : IsManifest c.manifest-stored.result.now (store_of c.args.under.now).world.store = subst (λ (l : StoreParts). IsManifest c.manifest-stored.result.now l.world.store) c.store.ensures c.manifest-stored.ensures in
    manifest_came (store_of c.args.under.now) (store_of c.set_actor.new.self) c.args.line c.other.result c.set_actor.ensures.store (lent_of c.set_actor.new.self) (lent_of c.put_manifest-put.new.self)
    c.manifest-stored.result.now c.in_ok-value.value c.new.result is c.in_ok-value.ensures.copy c.new.ensures
    c.args.own (store_of c.put_manifest-put.new.self) c.put_manifest-put.result c.other.ensures c.put_manifest-put.ensures

pub returns-clause-whole : goal.returns-clause-whole
returns-clause-whole c =
    still_whole (store_of c.args.under.now) (store_of c.set_actor.new.self) (store_of c.put_manifest-put.new.self) c.args.line c.other.result c.set_actor.ensures.store (lent_of c.set_actor.new.self) (lent_of c.put_manifest-put.new.self)
    _ _ _ c.put_manifest-put.result c.put_manifest-put.ensures
