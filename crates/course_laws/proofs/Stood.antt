-- Puts that took effect are for the stored version.
use Rattle.std.proofs.Common.{◌≡◌, refl, ℕ, ◌+◌, cond, Bool, true, false, Some, None}
use Rattle.std.specs.Prelude.{◌==◌, ◌&&◌}
use Rattle.std.proofs.lemmas.Bool.Decides.{Decides-eqb}
use Rattle.fleet_model.specs.History.{ManifestChange, Done, Conflict, stood}
use Rattle.fleet_model.specs.Store.{Manifest, Store}
use Rattle.fleet_model.specs.Exchanges.{PutsManifest, stands_or_lost}
use Rattle.step_model.specs.Rivals.{Strike}
use Rattle.course_laws.proofs.Later.{answer_by}

pub unless_both : (a b : Bool) → (a ≡ true → b ≡ true → ⊥) → (a && b) ≡ false
unless_both true true h = absurd (h refl refl)
unless_both true false h = refl
unless_both false b h = refl

-- A put of the manifest that took effect is for the stored version.
pub stood_version : (strike : Strike) (store : Store) (version : ℕ) (change : ManifestChange) (value : Manifest) → stood (answer_by (PutsManifest version change value) strike store) ≡ true → version ≡ store.manifest.version
stood_version None store version change value took = by (version == store.manifest.version) refl took
  where
    by : (b : Bool) → (version == store.manifest.version) ≡ b → stood (cond b (Done (store.manifest.version + 1)) (Conflict store.manifest.version)) ≡ true → version ≡ store.manifest.version
    by true e took = (Decides-eqb version store.manifest.version).0 e
    by false e took = absurd (cc took)
stood_version (Some true) store version change value took = by (version == store.manifest.version) refl took
  where
    by : (b : Bool) → (version == store.manifest.version) ≡ b → stood (stands_or_lost (cond b (Done (store.manifest.version + 1)) (Conflict store.manifest.version))) ≡ true → version ≡ store.manifest.version
    by true e took = (Decides-eqb version store.manifest.version).0 e
    by false e took = absurd (cc took)
stood_version (Some false) store version change value took = absurd (cc took)
