-- The calls of a store as the model's exchanges.
use Rattle.std.specs.Prelude.{ℕ, List}
use Rattle.fleet_model.specs.Exchanges as model
use Rattle.fleet_model.specs.Store as model_store
use Rattle.fleet_tree.specs.declared.manifest.Manifest.{Manifest}
use Rattle.fleet_jobs.specs.Parts.JobParts.{JobParts}
use Rattle.fleet_jobs.specs.Jobs.{jobs_of}
use Rattle.fleet_book.specs.declared.compactions.Compactions.{Compactions}
use Rattle.fleet_history.specs.Changes.{manifest_change_of, record_change_of}
use Rattle.fleet_history.specs.Entries.{event_of}
use Rattle.fleet_history.specs.Notes.{event_of_note}
use Rattle.fleet_history.specs.declared.manifest_change.ManifestChange.{ManifestChange}
use Rattle.fleet_history.specs.declared.note.Note.{Note}
use Rattle.fleet_history.specs.declared.record_change.RecordChange.{RecordChange}
use Rattle.fleet_store.specs.Manifests.{meant_by}

-- A put of a manifest over this store. The jobs are those that a commit does.
abbrev pub manifest_put : (version : ℕ) (value : Manifest) (why : ManifestChange) (jobs : List JobParts)
    (store : model_store.Store) → model.Exchange
manifest_put version value why jobs store =
    model.PutsManifest version (manifest_change_of why) (meant_by jobs (manifest_change_of why) version value store)

-- A put of records.
abbrev pub records_put : ℕ → Compactions → RecordChange → model.Exchange
records_put version value why =
    model.PutsRecords version (record_change_of why) value.compactor_epoch (jobs_of value.jobs)

-- A note.
abbrev pub noted_exchange : Note → model.Exchange
noted_exchange note = model.Plain (event_of (event_of_note note))
