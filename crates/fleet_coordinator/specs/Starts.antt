-- How a coordinator starts.
use Rattle.std.specs.Prelude.{◌≡◌, ℕ, ◌+◌, max, Option, None, option_map}
use Rattle.fleet_model.specs.History.{Coordinator}
use Rattle.fleet_model.specs.Jobs.{trimmed_jobs}
use Rattle.fleet_model.specs.Store.{Store, jobs_in, records_epoch}
use Rattle.fleet_model.specs.Exchanges.{records_version}
use Rattle.fleet_jobs.specs.Jobs.{jobs_of}
use Rattle.fleet_book.specs.VersionedRecords.{VersionedRecords}
use Rattle.fleet_book.specs.Versions.{records_of}
use Rattle.fleet_book.specs.declared.compactions.Compactions.{Compactions}
use Rattle.fleet_store.specs.Records.{DescribeTables, jobs_or_none}
use Rattle.fleet_tree.specs.declared.manifest.VersionedManifest.{VersionedManifest}
use Rattle.step_model.specs.Fits.{CoordinatorHolds}
use Rattle.fleet_coordinator.specs.declared.coordinator.StartPut.{StartPut}
use Rattle.step_model.specs.Views.{StoreView}

-- A coordinator calls the store, with this number.
pub record IsCoordinator (view : StoreView) : Type 0 where
  pub number : ℕ
  pub party : view.who.party ≡ Coordinator number

-- The put of records with this version and value sets the epoch of the records that were got, if any.
pub record PutsEpoch (got : Option VersionedRecords) (epoch version : ℕ) (value : Compactions) : Type 0 where
  pub at : version ≡ records_version (option_map records_of got)
  pub sets : value.compactor_epoch ≡ epoch
  pub jobs : jobs_of value.jobs ≡ trimmed_jobs (jobs_in (option_map records_of got))
  pub described : (store : Store) → DescribeTables (jobs_or_none got) store → DescribeTables value.jobs store

-- What a start puts over these objects.
pub record IsStartPut (got : VersionedManifest) (records : Option VersionedRecords) (put : StartPut) : Type 0 where
  pub above : put.epoch ≡ max got.manifest.compactor_epoch (records_epoch (option_map records_of records)) + 1
  pub of : put.id ≡ got.id
  pub sets : put.manifest ≡ record got.manifest { compactor_epoch = put.epoch }
  pub puts : PutsEpoch records put.epoch put.version put.value

-- The coordinator that calls the store fits it with this epoch, and holds no local state.
abbrev pub HasStarted : StoreView → ℕ → Type 0
HasStarted view epoch = (number : ℕ) → view.who.party ≡ Coordinator number
    → CoordinatorHolds view.world (record { number = number; epoch = epoch }) None
