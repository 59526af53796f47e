-- Laws: what puts of the manifest leave, and that what was got stays.
use Rattle.std.specs.Prelude.{◌≡◌, ℕ, List, Option, Some, Ok}
use Rattle.fleet_model.specs.History.{Party, ManifestChange}
use Rattle.fleet_model.specs.Exchanges.{PutsManifest}
use Rattle.fleet_model.specs.Exchanges.{records_version}
use Rattle.fleet_model.specs.Store.{Manifest, Store}
use Rattle.step_model.specs.Past.{World}
use Rattle.step_model.specs.Later.{IsLater}
use Rattle.step_model.specs.Views.{StoreView}
use Rattle.step_model.specs.Rivals.{Strike, after_call}
use Rattle.fleet_tree.specs.Views.{View}
use Rattle.fleet_tree.specs.declared.handle.SsTableHandle.{SsTableHandle}
use Rattle.fleet_tree.specs.declared.manifest.VersionedManifest.{VersionedManifest}
use Rattle.fleet_jobs.specs.Parts.JobParts.{JobParts}
use Rattle.fleet_book.specs.VersionedRecords.{VersionedRecords}
use Rattle.fleet_store.specs.Asks.{GetsManifest, GetsRecords}
use Rattle.fleet_store.specs.Handles.{IsDescribed, NamesTable}
use Rattle.fleet_store.specs.Manifests.{IsManifest}
use Rattle.fleet_store.specs.Records.{AreRecords, DescribeTables}

-- Two puts of the manifest leave the same if their values are equal wherever their version is stored.
abbrev pub RefusedPutsAreAlike : Type 0
RefusedPutsAreAlike = (line : ℕ) (party : Party) (version : ℕ) (change : ManifestChange)
    (one other : Manifest) (strike : Strike) (world : World)
    → (version ≡ world.store.manifest.version → one ≡ other)
    → after_call line party (PutsManifest version change one) strike world
    ≡ after_call line party (PutsManifest version change other) strike world

-- What was got of a store stays in a later one: an object as long as its version is stored, and what describes a
-- table or names it in any case.
pub record GotStays (got met : Store) : Type 0 where
  pub manifest : (m : VersionedManifest) → IsManifest m got → m.id ≡ met.manifest.version → IsManifest m met
  pub records : (r : VersionedRecords) → AreRecords (Some r) got → r.id ≡ records_version met.records
      → AreRecords (Some r) met
  pub handle : (handle : SsTableHandle) → IsDescribed got.tables handle → IsDescribed met.tables handle
  pub view : (view : View) → NamesTable got.tables view → NamesTable met.tables view
  pub jobs : (jobs : List JobParts) → DescribeTables jobs got → DescribeTables jobs met

-- What a get answered is what the store then has.
pub record GotIsStored (old new : StoreView) : Type 0 where
  pub manifest : (m : VersionedManifest) → GetsManifest old new (Ok m) → IsManifest m new.world.store
  pub records : (r : Option VersionedRecords) → GetsRecords old new (Ok r) → AreRecords r new.world.store
