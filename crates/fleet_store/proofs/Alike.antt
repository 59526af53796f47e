-- Puts of the manifest that leave the same.
use Rattle.std.proofs.Common.{◌≡◌, refl, ap, ℕ, ◌+◌, ◌==◌, Bool, true, false, if◌then◌else◌, Some, None}
use Rattle.std.proofs.lemmas.Bool.{eqb-true}
use Rattle.fleet_model.specs.History.{ManifestChange, PutManifest}
use Rattle.fleet_model.specs.Exchanges.{PutsManifest, with_entry, after_exchange, put_answer, stands_or_lost}
use Rattle.fleet_model.specs.Store.{Manifest, Store}
use Rattle.step_model.specs.Past.{world_after}
use Rattle.fleet_store.specs.Laws.{RefusedPutsAreAlike}

performed_alike : (version : ℕ) (change : ManifestChange) (one other : Manifest) (store : Store) → (version ≡ store.manifest.version → one ≡ other) → after_exchange (PutsManifest version change one) store ≡ after_exchange (PutsManifest version change other) store
performed_alike version change one other store same = by (version == store.manifest.version) refl
  where
    by : (b : Bool) → (version == store.manifest.version) ≡ b
        → (if b then record store { manifest = record one { version = version + 1 } } else store) ≡ (if b then record store { manifest = record other { version = version + 1 } } else store)
    by true is = ap (λ (v : Manifest). record store { manifest = record v { version = version + 1 } }) (same (eqb-true version store.manifest.version is))
    by false is = refl

pub refused_puts_are_alike : RefusedPutsAreAlike
refused_puts_are_alike line party version change one other None world same =
    ap (λ (s : Store). world_after world (with_entry line party (PutManifest change) (put_answer version world.store.manifest.version) s)) (performed_alike version change one other world.store same)
refused_puts_are_alike line party version change one other (Some true) world same =
    ap (λ (s : Store). world_after world (with_entry line party (PutManifest change) (stands_or_lost (put_answer version world.store.manifest.version)) s)) (performed_alike version change one other world.store same)
refused_puts_are_alike line party version change one other (Some false) world same = refl
