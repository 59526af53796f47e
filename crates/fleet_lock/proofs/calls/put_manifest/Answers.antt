use Rattle.std.proofs.Common.{subst, sym}
use Rattle.fleet_store.specs.Asks.{ManifestPutFits}
use Rattle.fleet_store.specs.Manifests.{jobs_shown}
use Rattle.fleet_store.specs.Memory.{StoreParts}
use Rattle.fleet_store.specs.Under.{lent_of, view_of}
use Rattle.fleet_lock.proofs.calls.put_manifest.Goals as goal

pub put_manifest-requires : goal.put_manifest-requires
put_manifest-requires g c =
    let lent = lent_of c.under.result in
    subst (λ (s : StoreParts). ManifestPutFits (view_of g.F.Fold.fold lent s) c.args.version c.args.manifest c.args.why (jobs_shown c.args.jobs)) (sym c.under.ensures.store) (c.requires.fits lent)
