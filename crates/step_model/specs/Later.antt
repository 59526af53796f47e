-- What later calls leave of a store.
use Rattle.std.specs.Prelude.{◌≡◌, ◌≤◌, ◌++◌}
use Rattle.fleet_model.specs.Nodes.{Tables}
use Rattle.fleet_model.specs.Exchanges.{records_version}
use Rattle.fleet_model.specs.Store.{Store}

-- What later calls leave of a store: an object that has the same version is the same, and tables were only added.
pub record IsLater (old new : Store) : Type 0 where
  pub manifest_rises : old.manifest.version ≤ new.manifest.version
  pub manifest_stays : old.manifest.version ≡ new.manifest.version → old.manifest ≡ new.manifest
  pub records_rise : records_version old.records ≤ records_version new.records
  pub records_stay : records_version old.records ≡ records_version new.records → old.records ≡ new.records
  pub more : Tables
  pub tables_added : new.tables ≡ old.tables ++ more
