-- What was got of a store stays in a later one.
use Rattle.std.proofs.Common.{◌≡◌, sym, ◌∙◌, ap, subst, ℕ, List, [], ◌∷◌, Option, Some, None, Result, Ok, Err}
use Rattle.std.specs.Prelude.{flat_map}
use Rattle.std.specs.List.{AllByRecursion}
use Rattle.fleet_model.specs.Exchanges.{Exchange, records_version}
use Rattle.fleet_model.specs.Handles.{describe}
use Rattle.fleet_model.specs.Store.{Store}
use Rattle.fleet_model.specs.Store as model_store
use Rattle.step_model.specs.Past.{World}
use Rattle.step_model.specs.Rivals.{Strike, after_call}
use Rattle.step_model.specs.Later.{IsLater}
use Rattle.step_model.specs.Views.{StoreView}
use Rattle.step_laws.proofs.Later.{call_later, later_itself, later_then, rivals_later, table_stays}
use Rattle.fleet_tree.specs.Views.{View}
use Rattle.fleet_tree.specs.declared.handle.SsTableHandle.{SsTableHandle}
use Rattle.fleet_tree.specs.declared.manifest.VersionedManifest.{VersionedManifest}
use Rattle.fleet_jobs.specs.Parts.JobParts.{JobParts}
use Rattle.fleet_book.specs.VersionedRecords.{VersionedRecords}
use Rattle.fleet_store.specs.Handles.{IsDescribed, NamesTable}
use Rattle.fleet_rows.specs.declared.errors.SlateDBError.{SlateDBError}
use Rattle.fleet_rows.specs.declared.errors.SlateDBError.TheVariants.{IteratorNotInitialized, IteratorFailed, MergeOperatorMissing, InvalidSequenceOrder, MergeOperator, CompactionFilter, InvalidCompaction, InvalidDBState, Fenced, StoreFault, NotOwner, Conflict, Generate, Memory}
use Rattle.fleet_store.specs.Asks.{GetsManifest, GetsRecords}
use Rattle.fleet_store.specs.Called.{Called, Ended}
use Rattle.fleet_store.specs.Laws.{GotIsStored, GotStays}
use Rattle.fleet_store.specs.Manifests.{IsManifest, bare, views_in}
use Rattle.fleet_jobs.specs.Jobs.{job_handles}
use Rattle.fleet_store.specs.Records.{AreRecords, DescribeTables}

module _ (got met : Store) (later : IsLater got met) where
  pub still_described : (handle : SsTableHandle) → IsDescribed got.tables handle → IsDescribed met.tables handle
  still_described handle is =
      let stays = table_stays handle.id got met later is.put in
      record { put = stays.there; describes = is.describes ∙ ap (describe handle.id) (sym stays.rows) }

  pub all_described : (handles : List SsTableHandle) → AllByRecursion (IsDescribed got.tables) handles → AllByRecursion (IsDescribed met.tables) handles
  all_described [] all = tt
  all_described (handle ∷ handles) all = (still_described handle all.0, all_described handles all.1)

  still_named : (view : View) → NamesTable got.tables view → NamesTable met.tables view
  still_named view named = record { identity = named.identity; described = still_described view.sst named.described }

  all_named : (views : List View) → AllByRecursion (NamesTable got.tables) views → AllByRecursion (NamesTable met.tables) views
  all_named [] all = tt
  all_named (view ∷ views) all = (still_named view all.0, all_named views all.1)

  pub still_describe : (jobs : List JobParts) → DescribeTables jobs got → DescribeTables jobs met
  still_describe jobs all = all_described (flat_map job_handles jobs) all

  -- A manifest that was got is the stored one as long as its version is.
  pub still_manifest : (m : VersionedManifest) → IsManifest m got → m.id ≡ met.manifest.version → IsManifest m met
  still_manifest m is same =
      let version : m.id ≡ got.manifest.version = ap (λ (b : model_store.Manifest). b.version) is.same in
      record {
        same = is.same ∙ ap bare (later.manifest_stays (sym version ∙ same));
        views = all_named (views_in m.manifest.core) is.views;
      }

  -- Records that were got are the stored ones as long as their version is.
  pub still_records : (r : VersionedRecords) → AreRecords (Some r) got → r.id ≡ records_version met.records → AreRecords (Some r) met
  still_records r are same =
      let version : r.id ≡ records_version got.records = ap records_version are.same in
      record {
        same = are.same ∙ later.records_stay (sym version ∙ same);
        handles = still_describe r.compactions.jobs are.handles;
      }

  pub got_stays : GotStays got met
  got_stays = record { manifest = still_manifest; records = still_records; handle = still_described; view = still_named; jobs = still_describe }

-- ---- right after a get

pub got_manifest : (old new : StoreView) (m : VersionedManifest) → GetsManifest old new (Ok m) → IsManifest m new.world.store
got_manifest old new m gets = let is = gets.ended.0 in rw gets.ended.1.leaves (record { same = is.same; views = is.views })

pub got_records : (old new : StoreView) (r : Option VersionedRecords) → GetsRecords old new (Ok r) → AreRecords r new.world.store
got_records old new r gets = let are = gets.called.ended.0 in rw gets.called.ended.1.leaves (record { same = are.same; handles = are.handles })

pub got_is_stored : (old new : StoreView) → GotIsStored old new
got_is_stored old new = record { manifest = got_manifest old new; records = got_records old new }

-- ---- calls

module _ {A : Type 0} (x : Exchange) (met : World) (old new : StoreView) (Gives : A → Type 0) (Refuses : ℕ → Type 0) where
  made_later : (strike : Strike) → new.world ≡ after_call old.who.line old.who.party x strike met → IsLater met.store new.world.store
  made_later strike is = subst (λ (t : World). IsLater met.store t.store) (sym is) (call_later old.who.line old.who.party x strike met.store)

  -- However a call ends, the store after it is later than the one that it met.
  ended_later : (result : Result A SlateDBError) → Ended x met old new Gives Refuses result → IsLater met.store new.world.store
  ended_later (Ok answer) is = made_later None is.1.leaves
  ended_later (Err StoreFault) is = made_later (Some is.stands) is.leaves
  ended_later (Err (Conflict seen)) is = made_later None is.1.leaves
  ended_later (Err Memory) is = subst (λ (t : World). IsLater met.store t.store) (sym is.leaves) (later_itself met.store)
  ended_later (Err IteratorNotInitialized) is = absurd is
  ended_later (Err IteratorFailed) is = absurd is
  ended_later (Err MergeOperatorMissing) is = absurd is
  ended_later (Err (InvalidSequenceOrder current next)) is = absurd is
  ended_later (Err (MergeOperator error)) is = absurd is
  ended_later (Err (CompactionFilter error)) is = absurd is
  ended_later (Err InvalidCompaction) is = absurd is
  ended_later (Err InvalidDBState) is = absurd is
  ended_later (Err (Fenced stored)) is = absurd is
  ended_later (Err NotOwner) is = absurd is
  ended_later (Err (Generate message)) is = absurd is

-- A call leads to a later store, however it ends.
pub called_later : {A : Type 0} (old new : StoreView) (x : Store → Exchange) (Gives : Store → A → Type 0) (Refuses : Store → ℕ → Type 0) (result : Result A SlateDBError) → Called old new x Gives Refuses result → IsLater old.world.store new.world.store
called_later old new x Gives Refuses result called =
    later_then old.world.store called.met.store new.world.store (rivals_later old.who old.world called.met called.rivals)
    (ended_later (x called.met.store) called.met old new (Gives called.met.store) (Refuses called.met.store) result called.ended)
