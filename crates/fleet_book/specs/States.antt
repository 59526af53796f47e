-- How the state of a coordinator changes.
use Rattle.std.specs.Prelude.{Bool, List, fold, if◌then◌else◌, Option, Some, None}
use Rattle.std.specs.List.{list_any}
use Rattle.fleet_model.specs.Work.Polls.{clashes}
use Rattle.step_model.specs.Steps.Merging.{adopts, is_taken_new}
use Rattle.fleet_jobs.specs.Parts.JobParts.{JobParts}
use Rattle.fleet_jobs.specs.Jobs.{job_of}
use Rattle.fleet_book.specs.Records.{put_record, record_with}
use Rattle.fleet_jobs.specs.Specs.{spec_of}
use Rattle.fleet_book.specs.StateParts.{StateParts}
use Rattle.fleet_jobs.specs.Status.{status_of}
use Rattle.fleet_book.specs.VersionedRecords.{VersionedRecords}
use Rattle.fleet_jobs.specs.declared.spec.CompactionSpec.{CompactionSpec}

-- The jobs that the coordinator has.
abbrev pub own_jobs : StateParts → List JobParts
own_jobs state = state.compactions.compactions.jobs

-- True if a job that is not over has the target of the spec: both make the same run, or both are drains of one
-- segment.
abbrev pub is_taken : CompactionSpec → List JobParts → Bool
is_taken spec jobs = list_any (λ job. clashes (spec_of spec) (job_of job)) jobs

-- True if the coordinator takes the stored record of a job, given its own record if it has one.
abbrev pub takes : Option JobParts → JobParts → Bool
takes None stored = is_taken_new (status_of stored.status)
takes (Some own) stored = adopts (status_of own.status) (status_of stored.status)

-- The coordinator's jobs after it saw a stored record.
abbrev pub with_stored : List JobParts → JobParts → List JobParts
with_stored jobs stored = if takes (record_with stored.id jobs) stored then put_record stored jobs else jobs

-- The coordinator's jobs after it saw all stored records.
abbrev pub merged_jobs : (jobs stored : List JobParts) → List JobParts
merged_jobs jobs stored = fold with_stored jobs stored

-- The coordinator's records after it saw the stored ones. They have the stored version and its own epoch.
abbrev pub merged_records : (own stored : VersionedRecords) → VersionedRecords
merged_records own stored = record {
  id = stored.id;
  compactions = record own.compactions { jobs = merged_jobs own.compactions.jobs stored.compactions.jobs };
}
