-- The status of a job.
use Rattle.std.specs.Prelude.{Bool, true, false, ◌&&◌}
use Rattle.fleet_model.specs.Jobs.{Status, Submitted, Scheduled, Running, Compacted, Completed, Failed, status_eq}
use Rattle.fleet_jobs.specs.declared.status.CompactionStatus.{CompactionStatus}
use Rattle.fleet_jobs.specs.declared.status.CompactionStatus.TheVariants as own

-- The model's status.
abbrev pub status_of : CompactionStatus → Status
status_of own.Submitted = Submitted
status_of own.Scheduled = Scheduled
status_of own.Running = Running
status_of own.Compacted = Compacted
status_of own.Completed = Completed
status_of own.Failed = Failed

-- True if a job with this status counts against the number of jobs at once. It was asked for, waits for a
-- worker, or has one.
abbrev pub holds_capacity : Status → Bool
holds_capacity Submitted = true
holds_capacity Scheduled = true
holds_capacity Running = true
holds_capacity Compacted = false
holds_capacity Completed = false
holds_capacity Failed = false

-- True if a job waits for a worker in both of its records.
abbrev pub both_wait : (own stored : Status) → Bool
both_wait own stored = status_eq Scheduled own && status_eq Scheduled stored
