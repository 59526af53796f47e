-- A call of the store inside is one of the store that tells its place.
use Rattle.std.proofs.Common.{refl, ℕ, List, Option, Result, Ok, Err}
use Rattle.fleet_model.specs.Exchanges.{Exchange}
use Rattle.fleet_model.specs.Store.{Store}
use Rattle.step_model.specs.Past.{World}
use Rattle.step_model.specs.Views.{StoreView}
use Rattle.fleet_rows.specs.declared.errors.SlateDBError.{SlateDBError}
use Rattle.fleet_rows.specs.declared.errors.SlateDBError.TheVariants.{IteratorNotInitialized, IteratorFailed, MergeOperatorMissing, InvalidSequenceOrder, MergeOperator, CompactionFilter, InvalidCompaction, InvalidDBState, Fenced, StoreFault, NotOwner, Conflict, Generate, Memory}
use Rattle.fleet_tree.specs.declared.manifest.Manifest.{Manifest}
use Rattle.fleet_jobs.specs.Parts.JobParts.{JobParts}
use Rattle.fleet_book.specs.VersionedRecords.{VersionedRecords}
use Rattle.fleet_book.specs.declared.compactions.Compactions.{Compactions}
use Rattle.fleet_history.specs.declared.manifest_change.ManifestChange.{ManifestChange}
use Rattle.fleet_history.specs.declared.record_change.RecordChange.{RecordChange}
use Rattle.fleet_store.specs.Asks.{GetsRecords, ManifestPutFits, PutsRecords, RecordsPutFit}
use Rattle.fleet_store.specs.Called.{Called, Ended, IsMade}
use Rattle.fleet_rival.specs.Placed.{at_place}

module _ (place : List ℕ) (old new : StoreView) where
  pub made : (x : Exchange) (met : World) → IsMade x met old new → IsMade x met (at_place place old) (at_place place new)
  made x met is = record { room = is.room; leaves = is.leaves; spares = is.spares; no_fault = is.no_fault }

  -- A call that has ended for a store has ended for the same store with a place.
  pub ended : {A : Type 0} (x : Exchange) (met : World) (Gives : A → Type 0) (Refuses : ℕ → Type 0) (result : Result A SlateDBError) → Ended x met old new Gives Refuses result → Ended x met (at_place place old) (at_place place new) Gives Refuses result
  ended x met Gives Refuses (Ok answer) is = (is.0, made x met is.1)
  ended x met Gives Refuses (Err StoreFault) is = record { counts = is.counts; stands = is.stands; leaves = is.leaves; strikes = is.strikes; fault = is.fault; one_fault = is.one_fault }
  ended x met Gives Refuses (Err (Conflict seen)) is = (is.0, made x met is.1)
  ended x met Gives Refuses (Err Memory) is = record { leaves = is.leaves; waits_on = is.waits_on; no_fault = is.no_fault }
  ended x met Gives Refuses (Err IteratorNotInitialized) is = absurd is
  ended x met Gives Refuses (Err IteratorFailed) is = absurd is
  ended x met Gives Refuses (Err MergeOperatorMissing) is = absurd is
  ended x met Gives Refuses (Err (InvalidSequenceOrder current next)) is = absurd is
  ended x met Gives Refuses (Err (MergeOperator error)) is = absurd is
  ended x met Gives Refuses (Err (CompactionFilter error)) is = absurd is
  ended x met Gives Refuses (Err InvalidCompaction) is = absurd is
  ended x met Gives Refuses (Err InvalidDBState) is = absurd is
  ended x met Gives Refuses (Err (Fenced stored)) is = absurd is
  ended x met Gives Refuses (Err NotOwner) is = absurd is
  ended x met Gives Refuses (Err (Generate message)) is = absurd is

  abbrev pub placed : {A : Type 0} (x : Store → Exchange) (Gives : Store → A → Type 0) (Refuses : Store → ℕ → Type 0) (result : Result A SlateDBError) → Called old new x Gives Refuses result → Called (at_place place old) (at_place place new) x Gives Refuses result
  placed x Gives Refuses result called = record {
    same = record { who = called.same.who; lent = called.same.lent; place = refl };
    rise = called.rise;
    whole = called.whole;
    met = called.met;
    rivals = called.rivals;
    ended = ended (x called.met.store) called.met (Gives called.met.store) (Refuses called.met.store) result called.ended;
  }

pub gets_placed : (place : List ℕ) (old new : StoreView) (result : Result (Option VersionedRecords) SlateDBError) → GetsRecords old new result → GetsRecords (at_place place old) (at_place place new) result
gets_placed place old new result gets = record { called = placed place old new _ _ _ result gets.called; answer = gets.answer }

pub puts_placed : (place : List ℕ) (old new : StoreView) (version : ℕ) (value : Compactions) (why : RecordChange) (result : Result ℕ SlateDBError) → PutsRecords old new version value why result → PutsRecords (at_place place old) (at_place place new) version value why result
puts_placed place old new version value why result puts = record { called = placed place old new _ _ _ result puts.called; stored = puts.stored }

pub manifest_inside : (place : List ℕ) (view : StoreView) (version : ℕ) (value : Manifest) (why : ManifestChange) (jobs : List JobParts) → ManifestPutFits (at_place place view) version value why jobs → ManifestPutFits view version value why jobs
manifest_inside place view version value why jobs fits = record { lawful = fits.lawful; shown = fits.shown }

pub records_inside : (place : List ℕ) (view : StoreView) (version : ℕ) (value : Compactions) (why : RecordChange) → RecordsPutFit (at_place place view) version value why → RecordsPutFit view version value why
records_inside place view version value why fits = record { lawful = fits.lawful; shown = fits.shown }
