use Rattle.std.proofs.Common.{refl, subst, sym}
use Rattle.row_model.specs.Append.{append}
use Rattle.fleet_store.specs.Memory.{StoreParts}
use Rattle.fleet_store.specs.Manifests.{IsManifest}
use Rattle.fleet_store.specs.Under.{lent_of, store_of, view_of}
use Rattle.fleet_rival.proofs.Alone.{manifest_of_any}
use Rattle.fleet_tests.proofs.stores.put_manifest.Goals as goal

pub put_manifest-requires : goal.put_manifest-requires
put_manifest-requires c =
    let lent = store_of c.under-under.result in
    let is = subst (λ (l : StoreParts). IsManifest c.manifest.result.now l.world.store) (sym c.under-under.ensures.store) c.manifest.ensures in
    manifest_of_any (view_of append (lent_of c.under-under.result) lent) refl c.manifest.result.now c.args.version c.in_ok-value.value c.new.result
    is c.in_ok-value.ensures.copy c.new.ensures
