-- Records with their version as the model has them.
use Rattle.std.specs.Prelude.{List}
use Rattle.fleet_model.specs.Store.{Records}
use Rattle.fleet_jobs.specs.Parts.JobParts.{JobParts}
use Rattle.fleet_jobs.specs.Jobs.{jobs_of}
use Rattle.fleet_book.specs.VersionedRecords.{VersionedRecords}

-- The model's records with the contents of a program's records.
abbrev pub records_of : VersionedRecords → Records
records_of records = record {
  version = records.id;
  epoch = records.compactions.compactor_epoch;
  jobs = jobs_of records.compactions.jobs;
}

-- The records with these jobs in place of their own, at the same version and epoch.
abbrev pub with_jobs : List JobParts → VersionedRecords → VersionedRecords
with_jobs jobs records = record records { compactions = record records.compactions { jobs = jobs } }
