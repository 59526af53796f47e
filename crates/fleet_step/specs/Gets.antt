-- Two gets, one after the other.
use Rattle.std.specs.Prelude.{◌⊎◌, Option, Result, Ok, Err}
use Rattle.fleet_rows.specs.declared.errors.SlateDBError.{SlateDBError}
use Rattle.fleet_tree.specs.declared.manifest.VersionedManifest.{VersionedManifest}
use Rattle.fleet_book.specs.VersionedRecords.{VersionedRecords}
use Rattle.step_model.specs.Views.{StoreView}
use Rattle.fleet_store.specs.Asks.{GetsManifest, GetsRecords}

-- The manifest was got, and then the records were. `between` is what the caller saw in between.
pub record GotBoth (old new : StoreView) (manifest : VersionedManifest)
    (records : Result (Option VersionedRecords) SlateDBError) : Type 0 where
  pub between : StoreView
  pub first : GetsManifest old between (Ok manifest)
  pub second : GetsRecords between new records

-- Both objects were got, or one of the gets failed.
abbrev pub GetsBoth : (old new : StoreView) → Result (VersionedManifest × Option VersionedRecords) SlateDBError → Type 0
GetsBoth old new (Ok (manifest, records)) = GotBoth old new manifest (Ok records)
GetsBoth old new (Err error) =
    GetsManifest old new (Err error) ⊎ ((manifest : VersionedManifest) × GotBoth old new manifest (Err error))
