-- What a store in memory keeps stays what its world has, call by call.
use Rattle.std.proofs.Common.{IsTrue, ◌≡◌, refl, ap, sym, subst, ◌∙◌, ℕ, ◌+◌, ◌≤◌, ◌==◌, ◌&&◌, Bool, true, false, if◌then◌else◌, List, [], ◌∷◌, length, Option, Some, None, option_map, arith}
use Rattle.std.specs.BTreeMap.{insert_entry, is_at}
use Rattle.std.specs.Map.{remove_entry}
use Rattle.std.specs.Ordering.{nat_cmp}
use Rattle.std.proofs.lemmas.Bool.{eqb-true}
use Rattle.std.proofs.lemmas.List.Sums.{fold-append}
use Rattle.row_model.specs.Rows.{Row}
use Rattle.fleet_model.specs.History.{DrawJob, DrawTable, Event}
use Rattle.fleet_model.specs.Exchanges.{DeletesTable, Exchange, Plain, DrawsJob, DrawsTable, Fault, PutsTable, ListsTables, next_job_id, next_table_id, after_exchange, records_version}
use Rattle.fleet_model.specs.Nodes.{Tables, is_among}
use Rattle.fleet_model.specs.Store.{Store, held_tables, is_held}
use Rattle.step_model.specs.Rivals.{Strike, store_after_call}
use Rattle.fleet_tree.specs.declared.manifest.Manifest.{Manifest}
use Rattle.fleet_tree.specs.declared.manifest.VersionedManifest.{VersionedManifest}
use Rattle.fleet_jobs.specs.Parts.JobParts.{JobParts}
use Rattle.fleet_jobs.specs.Jobs.{jobs_of}
use Rattle.fleet_book.specs.VersionedRecords.{VersionedRecords}
use Rattle.fleet_book.specs.Versions.{records_of}
use Rattle.fleet_book.specs.declared.compactions.Compactions.{Compactions}
use Rattle.fleet_history.specs.Changes.{manifest_change_of}
use Rattle.fleet_history.specs.Parties.{party_of}
use Rattle.fleet_history.specs.declared.manifest_change.ManifestChange.{ManifestChange}
use Rattle.fleet_history.specs.declared.record_change.RecordChange.{RecordChange}
use Rattle.fleet_store.specs.Exchanges.{manifest_put, records_put}
use Rattle.fleet_store.specs.Log.{Adds, LogParts}
use Rattle.fleet_store.specs.Manifests.{HasTrees, IsManifest, bare_of, meant_by}
use Rattle.fleet_store.specs.Memory.{IsMemory, by_id}
use Rattle.fleet_store.specs.Records.{AreRecords, DescribeTables}
use Rattle.fleet_store.specs.Strikes.{is_performed, performed_under, strike_by}
use Rattle.fleet_store.proofs.Calls.{called_is}
use Rattle.fleet_store.proofs.Memories.{all_last, all_map, among_front, apart_from, described_stays, held_more, named_stays, not_gone, pairs_last, was_put}
use Rattle.fleet_store.proofs.Removed.{held_less, without_by_id}

-- A longer history changes nothing else.
longer : (store : Store) (history : _) (many more : ℕ) (manifest : VersionedManifest) (records : Option VersionedRecords) (held : Tables) (jobs tables : ℕ)
    → IsMemory store many manifest records held jobs tables → many ≤ more → IsMemory (record store { history = history }) more manifest records held jobs tables
longer store history many more manifest records held jobs tables is low = record {
  manifest_is = record { same = is.manifest_is.same; views = is.manifest_is.views };
  records_are = record { same = is.records_are.same; handles = is.records_are.handles };
  held_are = is.held_are;
  once = is.once;
  gone = is.gone;
  jobs_are = is.jobs_are;
  tables_are = is.tables_are;
  manifest_low = omega (arith, low, is.manifest_low);
  records_low = omega (arith, low, is.records_low);
  jobs_low = omega (arith, low, is.jobs_low);
  tables_low = omega (arith, low, is.tables_low);
}

-- After a call the store keeps what is performed.
pub kept_after_call : (old new : LogParts) (x : Exchange) (strike : Strike) (manifest : VersionedManifest) (records : Option VersionedRecords) (held : Tables) (jobs tables : ℕ)
    → Adds x old new strike → IsMemory (performed_under strike x old.world.store) (length old.history + 1) manifest records held jobs tables → IsMemory new.world.store (length new.history) manifest records held jobs tables
kept_after_call old new x strike manifest records held jobs tables adds is =
    let at : new.world.store ≡ store_after_call old.line (party_of old.party) x strike old.world.store = ap (λ t. t.store) adds.world_is in
    subst (λ s. IsMemory s (length new.history) manifest records held jobs tables) (sym (at ∙ called_is old.line (party_of old.party) x strike old.world.store))
    (longer (performed_under strike x old.world.store) _ (length old.history + 1) (length new.history) manifest records held jobs tables is (omega (arith, adds.longer)))

-- The numbers are bounded by a greater length, too.
more_room : (store : Store) (many : ℕ) (manifest : VersionedManifest) (records : Option VersionedRecords) (held : Tables) (jobs tables : ℕ)
    → IsMemory store many manifest records held jobs tables → IsMemory store (many + 1) manifest records held jobs tables
more_room store many manifest records held jobs tables is = record {
  manifest_is = is.manifest_is;
  records_are = is.records_are;
  held_are = is.held_are;
  once = is.once;
  gone = is.gone;
  jobs_are = is.jobs_are;
  tables_are = is.tables_are;
  manifest_low = omega (arith, is.manifest_low);
  records_low = omega (arith, is.records_low);
  jobs_low = omega (arith, is.jobs_low);
  tables_low = omega (arith, is.tables_low);
}

-- A get or a note changes nothing.
pub plain_kept : (old new : LogParts) (event : Event) (strike : Strike) (manifest : VersionedManifest) (records : Option VersionedRecords) (held : Tables) (jobs tables : ℕ)
    → Adds (Plain event) old new strike → IsMemory old.world.store (length old.history) manifest records held jobs tables → IsMemory new.world.store (length new.history) manifest records held jobs tables
plain_kept old new event strike manifest records held jobs tables adds is =
    kept_after_call old new (Plain event) strike manifest records held jobs tables adds (by (is_performed strike))
  where
    by : (b : Bool) → IsMemory (if b then old.world.store else old.world.store) (length old.history + 1) manifest records held jobs tables
    by true = more_room old.world.store (length old.history) manifest records held jobs tables is
    by false = more_room old.world.store (length old.history) manifest records held jobs tables is

-- So does a list.
pub list_kept : (old new : LogParts) (strike : Strike) (manifest : VersionedManifest) (records : Option VersionedRecords) (held : Tables) (jobs tables : ℕ)
    → Adds ListsTables old new strike → IsMemory old.world.store (length old.history) manifest records held jobs tables → IsMemory new.world.store (length new.history) manifest records held jobs tables
list_kept old new strike manifest records held jobs tables adds is =
    kept_after_call old new ListsTables strike manifest records held jobs tables adds (by (is_performed strike))
  where
    by : (b : Bool) → IsMemory (if b then old.world.store else old.world.store) (length old.history + 1) manifest records held jobs tables
    by true = more_room old.world.store (length old.history) manifest records held jobs tables is
    by false = more_room old.world.store (length old.history) manifest records held jobs tables is

-- A draw for a job raises its number, since it is never struck.
pub job_drawn : (old new : LogParts) (moment : ℕ) (strike : Strike) (manifest : VersionedManifest) (records : Option VersionedRecords) (held : Tables) (jobs tables : ℕ)
    → Adds (DrawsJob moment) old new strike → IsMemory old.world.store (length old.history) manifest records held jobs tables → IsMemory new.world.store (length new.history) manifest records held (jobs + 1) tables
job_drawn old new moment strike manifest records held jobs tables adds is =
    kept_after_call old new (DrawsJob moment) strike manifest records held (jobs + 1) tables adds
    (subst (λ s. IsMemory (performed_under s (DrawsJob moment) old.world.store) (length old.history + 1) manifest records held (jobs + 1) tables) (sym (adds.strike_is ∙ free old.waits)) (record {
      manifest_is = record { same = is.manifest_is.same; views = is.manifest_is.views };
      records_are = record { same = is.records_are.same; handles = is.records_are.handles };
      held_are = is.held_are;
      once = is.once;
      gone = is.gone;
      jobs_are = ap (λ n. n + 1) is.jobs_are;
      tables_are = is.tables_are;
      manifest_low = omega (arith, is.manifest_low);
      records_low = omega (arith, is.records_low);
      jobs_low = omega (arith, is.jobs_low);
      tables_low = omega (arith, is.tables_low);
    }))
  where
    free : (waits : Option Fault) → strike_by (DrawJob (next_job_id moment old.world.store)) waits ≡ None
    free None = refl
    free (Some fault) = refl

-- So does a draw for a table.
pub table_drawn : (old new : LogParts) (moment : ℕ) (strike : Strike) (manifest : VersionedManifest) (records : Option VersionedRecords) (held : Tables) (jobs tables : ℕ)
    → Adds (DrawsTable moment) old new strike → IsMemory old.world.store (length old.history) manifest records held jobs tables → IsMemory new.world.store (length new.history) manifest records held jobs (tables + 1)
table_drawn old new moment strike manifest records held jobs tables adds is =
    kept_after_call old new (DrawsTable moment) strike manifest records held jobs (tables + 1) adds
    (subst (λ s. IsMemory (performed_under s (DrawsTable moment) old.world.store) (length old.history + 1) manifest records held jobs (tables + 1)) (sym (adds.strike_is ∙ free old.waits)) (record {
      manifest_is = record { same = is.manifest_is.same; views = is.manifest_is.views };
      records_are = record { same = is.records_are.same; handles = is.records_are.handles };
      held_are = is.held_are;
      once = is.once;
      gone = is.gone;
      jobs_are = is.jobs_are;
      tables_are = ap (λ n. n + 1) is.tables_are;
      manifest_low = omega (arith, is.manifest_low);
      records_low = omega (arith, is.records_low);
      jobs_low = omega (arith, is.jobs_low);
      tables_low = omega (arith, is.tables_low);
    }))
  where
    free : (waits : Option Fault) → strike_by (DrawTable (next_table_id moment old.world.store)) waits ≡ None
    free None = refl
    free (Some fault) = refl

-- The manifest's version is the stored one.
pub version_is : (manifest : VersionedManifest) (store : Store) → IsManifest manifest store → manifest.id ≡ store.manifest.version
version_is manifest store is = ap (λ m. m.version) is.same

-- The records' version is the stored one.
pub records_version_is : (records : Option VersionedRecords) (store : Store) → AreRecords records store → records_version (option_map records_of records) ≡ records_version store.records
records_version_is records store is = ap records_version is.same

-- A put manifest takes the place of the stored one, if it stands.
pub manifest_kept : (old new : LogParts) (version : ℕ) (value : Manifest) (why : ManifestChange) (changed : List JobParts) (strike : Strike) (manifest : VersionedManifest) (records : Option VersionedRecords) (held : Tables) (jobs tables : ℕ) (later : VersionedManifest)
    → Adds (manifest_put version value why changed old.world.store) old new strike
    → (version ≡ old.world.store.manifest.version → HasTrees value changed (manifest_change_of why) old.world.store)
    → later ≡ (if is_performed strike && (version == manifest.id) then record { id = manifest.id + 1; manifest = value } else manifest)
    → IsMemory old.world.store (length old.history) manifest records held jobs tables → IsMemory new.world.store (length new.history) later records held jobs tables
manifest_kept old new version value why changed strike manifest records held jobs tables later adds shown is_later is =
    kept_after_call old new (manifest_put version value why changed old.world.store) strike later records held jobs tables adds (rw is_later (at (is_performed strike)))
  where
    store : Store
    store = old.world.store

    id_is : manifest.id ≡ store.manifest.version
    id_is = version_is manifest store is.manifest_is

    by : (b : Bool) → (version == manifest.id) ≡ b
        → IsMemory (if b then record store { manifest = record (meant_by changed (manifest_change_of why) version value old.world.store) { version = version + 1 } } else store) (length old.history + 1) (if b then record { id = manifest.id + 1; manifest = value } else manifest) records held jobs tables
    by true here =
        let same : version ≡ manifest.id = eqb-true version manifest.id here in
        let trees = shown (same ∙ id_is) in
        record {
          manifest_is = record { same = ap (λ n. bare_of (n + 1) value) (sym same) ∙ ap (λ t. record (bare_of (version + 1) value) { trees = t }) trees.same; views = trees.views };
          records_are = record { same = is.records_are.same; handles = is.records_are.handles };
          held_are = is.held_are;
          once = is.once;
          gone = is.gone;
          jobs_are = is.jobs_are;
          tables_are = is.tables_are;
          manifest_low = omega (arith, is.manifest_low);
          records_low = omega (arith, is.records_low);
          jobs_low = omega (arith, is.jobs_low);
          tables_low = omega (arith, is.tables_low);
        }
    by false here = more_room store (length old.history) manifest records held jobs tables is

    at : (p : Bool) → IsMemory (if p then after_exchange (manifest_put version value why changed store) store else store) (length old.history + 1) (if p && (version == manifest.id) then record { id = manifest.id + 1; manifest = value } else manifest) records held jobs tables
    at true =
        subst (λ n. IsMemory (if version == n then record store { manifest = record (meant_by changed (manifest_change_of why) version value old.world.store) { version = version + 1 } } else store) (length old.history + 1) (if version == manifest.id then record { id = manifest.id + 1; manifest = value } else manifest) records held jobs tables) id_is
        (by (version == manifest.id) refl)
    at false = more_room store (length old.history) manifest records held jobs tables is

-- Put records take the place of the stored ones, if they stand.
pub records_kept : (old new : LogParts) (version : ℕ) (value : Compactions) (why : RecordChange) (strike : Strike) (manifest : VersionedManifest) (records : Option VersionedRecords) (held : Tables) (jobs tables stored : ℕ) (later : Option VersionedRecords)
    → Adds (records_put version value why) old new strike
    → (version ≡ records_version old.world.store.records → DescribeTables value.jobs old.world.store)
    → stored ≡ records_version (option_map records_of records)
    → later ≡ (if is_performed strike && (version == stored) then Some (record { id = stored + 1; compactions = value }) else records)
    → IsMemory old.world.store (length old.history) manifest records held jobs tables → IsMemory new.world.store (length new.history) manifest later held jobs tables
records_kept old new version value why strike manifest records held jobs tables stored later adds shown is_stored is_later is =
    kept_after_call old new (records_put version value why) strike manifest later held jobs tables adds (rw is_later (rw (is_stored ∙ records_version_is records old.world.store is.records_are) (at (is_performed strike))))
  where
    store : Store
    store = old.world.store

    by : (b : Bool) → (version == records_version store.records) ≡ b
        → IsMemory (if b then record store { records = Some (record { version = version + 1; epoch = value.compactor_epoch; jobs = jobs_of value.jobs }) } else store) (length old.history + 1) manifest (if b then Some (record { id = records_version store.records + 1; compactions = value }) else records) held jobs tables
    by true here =
        let same : version ≡ records_version store.records = eqb-true version (records_version store.records) here in
        record {
          manifest_is = record { same = is.manifest_is.same; views = is.manifest_is.views };
          records_are = record { same = rw (sym same) refl; handles = shown same };
          held_are = is.held_are;
          once = is.once;
          gone = is.gone;
          jobs_are = is.jobs_are;
          tables_are = is.tables_are;
          manifest_low = omega (arith, is.manifest_low);
          records_low = omega (arith, same, is.records_low);
          jobs_low = omega (arith, is.jobs_low);
          tables_low = omega (arith, is.tables_low);
        }
    by false here = more_room store (length old.history) manifest records held jobs tables is

    at : (p : Bool) → IsMemory (if p then after_exchange (records_put version value why) store else store) (length old.history + 1) manifest (if p && (version == records_version store.records) then Some (record { id = records_version store.records + 1; compactions = value }) else records) held jobs tables
    at true = by (version == records_version store.records) refl
    at false = more_room store (length old.history) manifest records held jobs tables is

-- A put table is held, if the put stands.
pub table_kept : (old new : LogParts) (id : ℕ) (rows : List Row) (strike : Strike) (manifest : VersionedManifest) (records : Option VersionedRecords) (held : Tables) (jobs tables : ℕ) (later : Tables)
    → Adds (PutsTable id rows) old new strike → is_among old.world.store.tables id ≡ false
    → later ≡ (if is_performed strike then insert_entry nat_cmp held id rows else held)
    → IsMemory old.world.store (length old.history) manifest records held jobs tables → IsMemory new.world.store (length new.history) manifest records later jobs tables
table_kept old new id rows strike manifest records held jobs tables later adds none is_later is =
    kept_after_call old new (PutsTable id rows) strike manifest records later jobs tables adds (rw is_later (at (is_performed strike)))
  where
    store : Store
    store = old.world.store

    at : (p : Bool) → IsMemory (if p then after_exchange (PutsTable id rows) store else store) (length old.history + 1) manifest records (if p then insert_entry nat_cmp held id rows else held) jobs tables
    at true = record {
      manifest_is = record { same = is.manifest_is.same; views = all_map _ _ _ (named_stays store.tables (id, rows)) is.manifest_is.views };
      records_are = record { same = is.records_are.same; handles = all_map _ _ _ (described_stays store.tables (id, rows)) is.records_are.handles };
      held_are = ap (λ h. insert_entry nat_cmp h id rows) is.held_are
          ∙ (sym (fold-append (λ held table. insert_entry nat_cmp held table.0 table.1) [] (held_tables store) ((id, rows) ∷ []))
          ∙ ap by_id (sym (held_more store id rows (not_gone store.tables store.deleted id is.gone none))));
      once = pairs_last _ store.tables (id, rows) is.once (apart_from store.tables id none);
      gone = all_map _ _ store.deleted (λ gone. among_front store.tables (id, rows) gone) is.gone;
      jobs_are = is.jobs_are;
      tables_are = is.tables_are;
      manifest_low = omega (arith, is.manifest_low);
      records_low = omega (arith, is.records_low);
      jobs_low = omega (arith, is.jobs_low);
      tables_low = omega (arith, is.tables_low);
    }
    at false = more_room store (length old.history) manifest records held jobs tables is

-- A deleted table is no longer held, if the deletion stands.
pub deletion_kept : (old new : LogParts) (id : ℕ) (strike : Strike) (manifest : VersionedManifest) (records : Option VersionedRecords) (held : Tables) (jobs tables : ℕ) (later : Tables)
    → Adds (DeletesTable id) old new strike → IsTrue (is_held old.world.store id)
    → later ≡ (if is_performed strike then remove_entry (is_at (nat_cmp id)) held else held)
    → IsMemory old.world.store (length old.history) manifest records held jobs tables → IsMemory new.world.store (length new.history) manifest records later jobs tables
deletion_kept old new id strike manifest records held jobs tables later adds there is_later is =
    kept_after_call old new (DeletesTable id) strike manifest records later jobs tables adds (rw is_later (at (is_performed strike)))
  where
    store : Store
    store = old.world.store

    at : (p : Bool) → IsMemory (if p then after_exchange (DeletesTable id) store else store) (length old.history + 1) manifest records (if p then remove_entry (is_at (nat_cmp id)) held else held) jobs tables
    at true = record {
      manifest_is = record { same = is.manifest_is.same; views = is.manifest_is.views };
      records_are = record { same = is.records_are.same; handles = is.records_are.handles };
      held_are = ap (remove_entry (is_at (nat_cmp id))) is.held_are ∙ (without_by_id id (held_tables store) ∙ ap by_id (sym (held_less store.deleted id store.tables)));
      once = is.once;
      gone = all_last _ store.deleted id is.gone (was_put store.deleted id store.tables there);
      jobs_are = is.jobs_are;
      tables_are = is.tables_are;
      manifest_low = omega (arith, is.manifest_low);
      records_low = omega (arith, is.records_low);
      jobs_low = omega (arith, is.jobs_low);
      tables_low = omega (arith, is.tables_low);
    }
    at false = more_room store (length old.history) manifest records held jobs tables is
