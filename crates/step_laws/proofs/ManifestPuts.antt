-- A put of the manifest either takes effect or changes nothing.
use Rattle.std.proofs.Common.{◌≡◌, refl, sym, subst, ℕ, ◌+◌, cond, Bool, true, false, Some, None}
use Rattle.std.specs.Prelude.{◌==◌}
use Rattle.std.proofs.lemmas.Bool.Decides.{Decides-eqb}
use Rattle.row_model.specs.Fold.{Operator}
use Rattle.fleet_model.specs.History.{Party, PutManifest, ManifestChange, Answer, Done, Conflict, Stands, stood}
use Rattle.fleet_model.specs.Store.{Manifest}
use Rattle.fleet_model.specs.Exchanges.{PutsManifest, with_entry, stands_or_lost}
use Rattle.step_model.specs.Past.{World, world_after}
use Rattle.step_model.specs.LawfulManifests.{ManifestFits}
use Rattle.step_model.specs.Kept.Keeps.{Keeps}
use Rattle.step_laws.specs.CallLaws.{ManifestPutKeeps}
use Rattle.step_laws.proofs.ManifestBodies.{with_manifest, world_with_manifest}
use Rattle.step_laws.proofs.Vain.{vain_puts_keep}

-- A lawful put of this change that takes effect keeps the invariant.
abbrev pub StandingPutKeeps : Operator → ManifestChange → Type 0
StandingPutKeeps merge change = (line : ℕ) (party : Party) (answer : Answer) (world : World) (value : Manifest) → stood answer ≡ true → Keeps merge world → ManifestFits party world change value
    → Keeps merge (with_manifest world (record value { version = world.store.manifest.version + 1 }) (record { line = line; party = party; event = PutManifest change; answer = answer }))

world_put : (world : World) (line : ℕ) (party : Party) (change : ManifestChange) (answer : Answer) (version : ℕ) (value : Manifest) → version ≡ world.store.manifest.version
    → world_after world (with_entry line party (PutManifest change) answer (record world.store { manifest = record value { version = version + 1 } }))
    ≡ with_manifest world (record value { version = world.store.manifest.version + 1 }) (record { line = line; party = party; event = PutManifest change; answer = answer })
world_put world line party change answer version value same =
    rw same (world_with_manifest world (record value { version = world.store.manifest.version + 1 }) (record { line = line; party = party; event = PutManifest change; answer = answer }) refl)

-- All lawful puts of a change of the manifest keep the invariant, if those that take effect do.
pub manifest_put_keeps : (merge : Operator) (change : ManifestChange) → StandingPutKeeps merge change → ManifestPutKeeps merge change
manifest_put_keeps merge change stands version value line party None world k lawful may = by (version == world.store.manifest.version) refl
  where
    by : (b : Bool) → (version == world.store.manifest.version) ≡ b
        → Keeps merge (world_after world (with_entry line party (PutManifest change) (cond b (Done (world.store.manifest.version + 1)) (Conflict world.store.manifest.version)) (cond b (record world.store { manifest = record value { version = version + 1 } }) world.store)))
    by true e =
        let same = (Decides-eqb version world.store.manifest.version).0 e in
        subst (Keeps merge) (sym (world_put world line party change (Done (world.store.manifest.version + 1)) version value same)) (stands line party (Done (world.store.manifest.version + 1)) world value refl k (lawful same))
    by false e = subst (λ b. Keeps merge (world_after world (with_entry line party (PutManifest change) (cond b (Done (world.store.manifest.version + 1)) (Conflict world.store.manifest.version)) (cond b (record world.store { manifest = record value { version = version + 1 } }) world.store)))) e
        ((vain_puts_keep merge).refused line party None world version change value k (differs version world.store.manifest.version e))
      where
        differs : (n m : ℕ) → (n == m) ≡ false → n ≡ m → ⊥
        differs n m e same = absurd (cc (e, (Decides-eqb n m).1 same))
manifest_put_keeps merge change stands version value line party (Some true) world k lawful may = by (version == world.store.manifest.version) refl
  where
    by : (b : Bool) → (version == world.store.manifest.version) ≡ b
        → Keeps merge (world_after world (with_entry line party (PutManifest change) (stands_or_lost (cond b (Done (world.store.manifest.version + 1)) (Conflict world.store.manifest.version))) (cond b (record world.store { manifest = record value { version = version + 1 } }) world.store)))
    by true e =
        let same = (Decides-eqb version world.store.manifest.version).0 e in
        subst (Keeps merge) (sym (world_put world line party change Stands version value same)) (stands line party Stands world value refl k (lawful same))
    by false e = subst (λ b. Keeps merge (world_after world (with_entry line party (PutManifest change) (stands_or_lost (cond b (Done (world.store.manifest.version + 1)) (Conflict world.store.manifest.version))) (cond b (record world.store { manifest = record value { version = version + 1 } }) world.store)))) e
        ((vain_puts_keep merge).refused line party (Some true) world version change value k (differs version world.store.manifest.version e))
      where
        differs : (n m : ℕ) → (n == m) ≡ false → n ≡ m → ⊥
        differs n m e same = absurd (cc (e, (Decides-eqb n m).1 same))
manifest_put_keeps merge change stands version value line party (Some false) world k lawful may = (vain_puts_keep merge).lost (PutsManifest version change value) line party world k lawful may
