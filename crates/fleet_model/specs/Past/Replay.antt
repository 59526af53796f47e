-- The stored objects can be computed from the history alone, except for what the history does not record.
use Rattle.std.specs.Prelude.{◌≡◌, ℕ, ◌+◌, if◌then◌else◌, List, [], ◌∷◌, map, Option, Some, None, option_map}
use Rattle.std.specs.List.{concat, AllByRecursion}
use Rattle.fleet_model.specs.Nodes.{Tables, table_rows}
use Rattle.fleet_model.specs.Jobs.{JobSpec, Job, job_with, Lease}
use Rattle.fleet_model.specs.History.{Entry, Event, PutManifest, PutRecords, ManifestChange, ManifestEpoch, Flush, Commit, RecordChange, RecordsEpoch, stood, Submit, Polled}
use Rattle.fleet_model.specs.Trees.{flushed_trees, stepped_all, tables_now}
use Rattle.fleet_model.specs.Work.Records.{Unrecorded, jobs_after, no_contexts}
use Rattle.fleet_model.specs.Store.{Manifest, Records, Store, fresh_store, jobs_in}

-- The stored objects: the manifest and the job records.
pub record Objects : Type 0 where
  pub manifest : Manifest
  pub records : Option Records

-- A lease without the moment of its heartbeat, which the history does not record.
abbrev pub without_moment : Lease → Lease
without_moment lease = record lease { heartbeat = 0 }

-- A job without its context, the moment of its heartbeat, and the cut that it kept. The history does not
-- record these.
abbrev pub plain_job : Job → Job
plain_job job = record job { lease = option_map without_moment job.lease; context = None; kept_cut = None }

-- The records without what the history does not record of their jobs.
abbrev pub plain_records : Records → Records
plain_records records = record records { jobs = map plain_job records.jobs }

-- A manifest without its tracked flushes and its horizon, which the history does not record.
abbrev pub plain_manifest : Manifest → Manifest
plain_manifest manifest = record manifest { tracker = []; horizon = 0 }

-- The stored objects without what the history does not record.
abbrev pub plain_objects : Store → Objects
plain_objects store = record {
  manifest = plain_manifest store.manifest;
  records = option_map plain_records store.records;
}

-- The tables that a stored job recorded as its outputs, if there is such a job.
abbrev pub outputs_of : Option Job → List ℕ
outputs_of None = []
outputs_of (Some job) = concat job.outputs

-- The tables that the stored job with this id recorded as its outputs.
abbrev pub outputs_in : Option Records → ℕ → List ℕ
outputs_in None job = []
outputs_in (Some records) job = outputs_of (job_with job records.jobs)

-- The objects after a put of the manifest that took effect.
abbrev pub after_manifest_change : (tables : Tables) (specs : ℕ → JobSpec) (change : ManifestChange) (o : Objects)
    → Objects
after_manifest_change tables specs (ManifestEpoch epoch) o = record o {
  manifest = record o.manifest { version = o.manifest.version + 1; epoch = epoch };
}
after_manifest_change tables specs (Flush name segment floor tick) o = record o {
  manifest = record o.manifest {
    version = o.manifest.version + 1;
    trees = flushed_trees segment name (table_rows tables name) o.manifest.trees;
    floor = floor;
    tick = tick;
  };
}
after_manifest_change tables specs (Commit steps) o = record o {
  manifest = record o.manifest {
    version = o.manifest.version + 1;
    trees = stepped_all tables (λ job. (specs job, outputs_in o.records job)) steps o.manifest.trees;
  };
}

-- The epoch of the records after a put. Only a put for a new epoch changes it. It is 0 if there were no
-- records.
abbrev pub epoch_after : RecordChange → Option Records → ℕ
epoch_after (RecordsEpoch epoch) records = epoch
epoch_after change None = 0
epoch_after change (Some records) = records.epoch

-- The version of the records after a put. The first put gives 1, and each later put raises it by one.
abbrev pub next_version : Option Records → ℕ
next_version None = 1
next_version (Some records) = records.version + 1

-- The objects after a put of the records that took effect.
abbrev pub after_record_change : RecordChange → Objects → Objects
after_record_change change o =
    let unrecorded : Unrecorded =
    record { moment = 0; published = no_contexts; kept_cut = None; tables_of = tables_now o.manifest.trees } in
    record o {
      records =
          Some
          (record {
            version = next_version o.records;
            epoch = epoch_after change o.records;
            jobs = map plain_job (jobs_after unrecorded change (jobs_in o.records));
          });
    }

-- The objects after an event. Only puts of the manifest and of the records change them.
abbrev pub after_event : (tables : Tables) (specs : ℕ → JobSpec) (event : Event) (o : Objects) → Objects
after_event tables specs (PutManifest change) o = after_manifest_change tables specs change o
after_event tables specs (PutRecords change) o = after_record_change change o
after_event tables specs _ o = o

-- The objects after an entry. Only an event that took effect changes them.
abbrev pub after_entry : (tables : Tables) (specs : ℕ → JobSpec) (entry : Entry) (o : Objects) → Objects
after_entry tables specs entry o = if stood entry.answer then after_event tables specs entry.event o else o

-- The objects after these entries, taken one after the other.
abbrev pub replayed_objects : (tables : Tables) (specs : ℕ → JobSpec) (history : List Entry) (o : Objects) → Objects
replayed_objects tables specs [] o = o
replayed_objects tables specs (entry ∷ history) o =
    replayed_objects tables specs history (after_entry tables specs entry o)

-- The specs of jobs that the event names.
abbrev pub named_specs : Event → List (ℕ × JobSpec)
named_specs (PutRecords (Submit specs)) = specs
named_specs (PutRecords (Polled change)) = change.added
named_specs _ = []

-- The stored objects are those that the history gives, except for what it does not record. A commit names
-- its jobs by id alone. Their specs are taken from the entries that name them, even from entries of lost
-- puts. Only the spec of a job that no entry names is free. A poll added that job and completed it at once.
-- The poll's put of the manifest took effect, and the poll ended before its put of the records.
pub record IsReplayed (store : Store) : Type 0 where
  pub specs : ℕ → JobSpec
  pub agrees : AllByRecursion (λ entry. AllByRecursion (λ p. specs p.0 ≡ p.1) (named_specs entry.event)) store.history
  pub objects : plain_objects store ≡ replayed_objects store.tables specs store.history (plain_objects fresh_store)
