-- What each call of a store asks, and what it answers.
use Rattle.std.specs.Prelude.{◌≡◌, ◌≢◌, ℕ, IfOk, List, Option, Result, ⊤}
use Rattle.row_model.specs.Rows.{Row}
use Rattle.fleet_model.specs.History.{GetManifest, GetRecords, GetTable}
use Rattle.fleet_model.specs.Exchanges.{Exchange, Plain, DrawsJob, DrawsTable, PutsTable, ListsTables, DeletesTable, next_job_id, next_table_id, records_version}
use Rattle.fleet_model.specs.Store.{Store}
use Rattle.step_model.specs.Past.{World}
use Rattle.step_model.specs.Lawful.{Lawful}
use Rattle.step_model.specs.Rivals.{Rivals}
use Rattle.step_model.specs.Views.{StoreView}
use Rattle.fleet_rows.specs.declared.errors.SlateDBError.{SlateDBError}
use Rattle.fleet_tree.specs.declared.manifest.Manifest.{Manifest}
use Rattle.fleet_tree.specs.declared.manifest.VersionedManifest.{VersionedManifest}
use Rattle.fleet_jobs.specs.Parts.JobParts.{JobParts}
use Rattle.fleet_book.specs.VersionedRecords.{VersionedRecords}
use Rattle.fleet_book.specs.declared.compactions.Compactions.{Compactions}
use Rattle.fleet_history.specs.Changes.{manifest_change_of}
use Rattle.fleet_history.specs.declared.manifest_change.ManifestChange.{ManifestChange}
use Rattle.fleet_history.specs.declared.note.Note.{Note}
use Rattle.fleet_history.specs.declared.record_change.RecordChange.{RecordChange}
use Rattle.fleet_store.specs.Called.{Called, Never, PutsNext, ShowsStored}
use Rattle.fleet_store.specs.Exchanges.{manifest_put, records_put, noted_exchange}
use Rattle.fleet_store.specs.Manifests.{HasTrees, IsManifest}
use Rattle.fleet_store.specs.Records.{AreRecords, DescribeTables, jobs_or_none, processed_by}
use Rattle.fleet_store.specs.Tables.{held_rows, held_ids}

-- The call is lawful at each store that calls of others may leave.
abbrev pub MayCall : StoreView → (Store → Exchange) → Type 0
MayCall view x = (met : World) → Rivals view.who view.world met → Lawful view.who.merge view.who.party met (x met.store)

-- A put of the manifest fits each store that calls of others may leave: it is lawful, and if its version is
-- stored, then it has the trees that the change makes of the stored ones.
pub record ManifestPutFits (view : StoreView) (version : ℕ) (value : Manifest) (why : ManifestChange)
    (jobs : List JobParts) : Type 0 where
  pub lawful : MayCall view (manifest_put version value why jobs)
  pub shown : (met : World) → Rivals view.who view.world met → version ≡ met.store.manifest.version
      → HasTrees value jobs (manifest_change_of why) met.store

-- A put of the records fits each store that calls of others may leave: it is lawful, and if its version is
-- stored, then it describes its tables.
pub record RecordsPutFit (view : StoreView) (version : ℕ) (value : Compactions) (why : RecordChange) : Type 0 where
  pub lawful : MayCall view (λ met. records_put version value why)
  pub shown : (met : World) → Rivals view.who view.world met → version ≡ records_version met.store.records
      → DescribeTables value.jobs met.store

-- What a call of each kind leaves and answers.
module _ (old new : StoreView) where
  abbrev pub GetsManifest : Result VersionedManifest SlateDBError → Type 0
  GetsManifest result = Called old new (λ met. Plain GetManifest) (λ met manifest. IsManifest manifest met) Never result

  abbrev pub PutsManifest : (version : ℕ) (value : Manifest) (why : ManifestChange) (jobs : List JobParts)
      (result : Result ℕ SlateDBError) → Type 0
  PutsManifest version value why jobs result =
      Called old new (manifest_put version value why jobs) (λ met. PutsNext version met.manifest.version)
      (λ met. ShowsStored version met.manifest.version) result

  -- The answer is whole: it says of each job what the stored records do.
  pub record GetsRecords (result : Result (Option VersionedRecords) SlateDBError) : Type 0 where
    pub called : Called old new (λ met. Plain GetRecords) (λ met records. AreRecords records met) Never result
    pub answer : IfOk result (λ records. processed_by (jobs_or_none records) ≡ new.processed)

  -- If the put takes effect, the value is stored whole.
  pub record PutsRecords (version : ℕ) (value : Compactions) (why : RecordChange)
      (result : Result ℕ SlateDBError) : Type 0 where
    pub called : Called old new (λ met. records_put version value why)
        (λ met. PutsNext version (records_version met.records))
        (λ met. ShowsStored version (records_version met.records)) result
    pub stored : records_version new.world.store.records ≢ records_version called.met.store.records
        → new.processed ≡ processed_by value.jobs

  abbrev pub PutsTableRows : ℕ → List Row → Result Unit SlateDBError → Type 0
  PutsTableRows id rows result = Called old new (λ met. PutsTable id rows) (λ met done. ⊤) Never result

  abbrev pub GetsTable : ℕ → Result (Option (List Row)) SlateDBError → Type 0
  GetsTable id result = Called old new (λ met. Plain (GetTable id)) (λ met rows. rows ≡ held_rows id met) Never result

  abbrev pub DrawsJobId : ℕ → Result ℕ SlateDBError → Type 0
  DrawsJobId moment result =
      Called old new (λ met. DrawsJob moment) (λ met id. id ≡ next_job_id moment met) Never result

  abbrev pub DrawsTableId : ℕ → Result ℕ SlateDBError → Type 0
  DrawsTableId moment result =
      Called old new (λ met. DrawsTable moment) (λ met id. id ≡ next_table_id moment met) Never result

  abbrev pub Notes : Note → Result Unit SlateDBError → Type 0
  Notes note result = Called old new (λ met. noted_exchange note) (λ met done. ⊤) Never result

  abbrev pub ListsHeld : Result (List ℕ) SlateDBError → Type 0
  ListsHeld result = Called old new (λ met. ListsTables) (λ met ids. ids ≡ held_ids met) Never result

  abbrev pub Deletes : ℕ → Result Unit SlateDBError → Type 0
  Deletes id result = Called old new (λ met. DeletesTable id) (λ met done. ⊤) Never result
