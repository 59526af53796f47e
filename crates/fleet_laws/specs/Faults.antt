-- A fault may strike a put that would be in conflict without the fault.
use Rattle.std.specs.Prelude.{◌≡◌, ℕ, ◌==◌, true, false}
use Rattle.fleet_model.specs.Jobs.{Jobs}
use Rattle.fleet_model.specs.History.{Party, ManifestChange, RecordChange}
use Rattle.fleet_model.specs.Store.{Manifest, Store}
use Rattle.fleet_model.specs.Exchanges.{PutsManifest, PutsRecords, records_version, struck_by}

-- A struck put of a version that is not the stored one changes nothing. Its answer is Lost, whether the
-- fault lets puts stand or not.
pub record OldPutsAreLost (line : ℕ) (party : Party) (version : ℕ) (store : Store) : Type 0 where
  pub manifest : (change : ManifestChange) (value : Manifest) → (version == store.manifest.version) ≡ false
      → struck_by true line party (PutsManifest version change value) store
      ≡ struck_by false line party (PutsManifest version change value) store
  pub records : (change : RecordChange) (epoch : ℕ) (jobs : Jobs) → (version == records_version store.records) ≡ false
      → struck_by true line party (PutsRecords version change epoch jobs) store
      ≡ struck_by false line party (PutsRecords version change epoch jobs) store
