-- Which records of the model the records of a program stand for.
use Rattle.std.specs.Prelude.{◌≡◌, ℕ, List, [], map, flat_map, Option, Some, None, option_map}
use Rattle.std.specs.List.{AllByRecursion}
use Rattle.fleet_model.specs.Store.{Store}
use Rattle.fleet_jobs.specs.Parts.JobParts.{JobParts}
use Rattle.fleet_jobs.specs.Jobs.{job_handles}
use Rattle.fleet_book.specs.VersionedRecords.{VersionedRecords}
use Rattle.fleet_book.specs.Versions.{records_of}
use Rattle.fleet_store.specs.Handles.{IsDescribed}

-- The records describe tables that were put into the store.
abbrev pub DescribeTables : List JobParts → Store → Type 0
DescribeTables jobs store = AllByRecursion (IsDescribed store.tables) (flat_map job_handles jobs)

-- The jobs of the program's records, or none if there are no records.
abbrev pub jobs_or_none : Option VersionedRecords → List JobParts
jobs_or_none None = []
jobs_or_none (Some records) = records.compactions.jobs

-- The bytes that the records say each job has processed.
abbrev pub processed_by : List JobParts → List ℕ
processed_by jobs = map (λ job. job.bytes_processed) jobs

-- The program's records are the stored ones, and describe their tables.
pub record AreRecords (records : Option VersionedRecords) (store : Store) : Type 0 where
  pub same : option_map records_of records ≡ store.records
  pub handles : DescribeTables (jobs_or_none records) store
