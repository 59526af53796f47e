-- What a coordinator's own state shows.
use Rattle.fleet_tree.specs.declared.manifest.VersionedManifest.{VersionedManifest}
use Rattle.fleet_book.specs.VersionedRecords.{VersionedRecords}

-- What a `CompactorState` shows: the manifest and the records as the coordinator has them, with the versions
-- that it got.
pub record StateParts : Type 0 where
  pub manifest : VersionedManifest
  pub compactions : VersionedRecords
