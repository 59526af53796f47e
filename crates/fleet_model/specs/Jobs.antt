-- A compaction job has a spec. Its record gives its status, the worker that has it and the tables that it
-- wrote.
use Rattle.std.specs.Prelude.{ℕ, ◌*◌, ◌+◌, ◌%◌, ◌^◌, Bool, true, false, ◌||◌, ◌==◌, nat_lt, if◌then◌else◌, List, [], ◌∷◌, map, find, Option, Some, None, ◌-◌, ◌&&◌, bytes_eq}
use Rattle.row_model.specs.Lists.{insert_before}
use Rattle.fleet_model.specs.Nodes.{NodeName, Run}
use Rattle.row_model.specs.Settings.{Settings}
use Rattle.row_model.specs.Ranges.{Range}

-- The id with this moment and number: the low 48 bits of the moment, above 80 bits for the number.
abbrev pub id_of : (moment number : ℕ) → ℕ
id_of moment number = (moment % 2 ^ 48) * 2 ^ 80 + number

-- True if these are the same ids in the same order.
abbrev pub ids_eq : (ids others : List ℕ) → Bool
ids_eq ids others = bytes_eq ids others

-- The number of an id, which is its low 80 bits. Jobs are numbered from 1.
abbrev pub number_of : ℕ → ℕ
number_of id = id % 2 ^ 80

-- Tables that jobs write have numbers above this one. Flushed tables and jobs have numbers below it.
abbrev pub drawn_base : ℕ
drawn_base = 2 ^ 79

-- The id of a table that a job writes, by the moment and the number of its draw, from 1.
abbrev pub table_id_of : (moment number : ℕ) → ℕ
table_id_of moment number = id_of moment (drawn_base + number)

-- The spec of a job: it takes these source nodes of a segment, and makes of them a run with the destination
-- as its id. A job without a destination is a drain, which drops the source nodes.
pub record JobSpec : Type 0 where
  pub segment : List ℕ
  pub sources : List NodeName
  pub destination : Option ℕ

-- True if there is no destination, so the job is a drain.
abbrev pub is_drain_to : Option ℕ → Bool
is_drain_to None = true
is_drain_to (Some run) = false

-- True if the job is a drain.
abbrev pub is_drain : JobSpec → Bool
is_drain spec = is_drain_to spec.destination

-- Puts the destination, if there is one, in front of the sources.
abbrev pub with_destination : Option ℕ → List NodeName → List NodeName
with_destination None sources = sources
with_destination (Some run) sources = Run run ∷ sources

-- The nodes that a job touches: its destination, if it has one, and its sources.
abbrev pub nodes_of : JobSpec → List NodeName
nodes_of spec = with_destination spec.destination spec.sources

-- The status of a job. A Submitted job was asked for, a Scheduled job waits for a worker, and a Running job
-- has a worker. A Compacted job has written its tables and waits for its commit. A Completed or Failed job
-- is over.
pub data Status : Type 0 where
  Submitted : Status
  Scheduled : Status
  Running : Status
  Compacted : Status
  Completed : Status
  Failed : Status

-- True if a job with this status is over.
abbrev pub is_finished : Status → Bool
is_finished Submitted = false
is_finished Scheduled = false
is_finished Running = false
is_finished Compacted = false
is_finished Completed = true
is_finished Failed = true

-- True if both statuses are equal.
abbrev pub status_eq : (status other : Status) → Bool
status_eq Submitted Submitted = true
status_eq Scheduled Scheduled = true
status_eq Running Running = true
status_eq Compacted Compacted = true
status_eq Completed Completed = true
status_eq Failed Failed = true
status_eq _ _ = false

-- The release of a worker. A worker of release 1 knows no cut, and uses its floor instead.
pub data Release : Type 0 where
  One : Release
  Two : Release

-- True if a worker of this release knows cuts, as a worker of release 2 does.
abbrev pub knows_cut : Release → Bool
knows_cut One = false
knows_cut Two = true

-- The context of an attempt: its settings, and its ranges with the tables made for each so far. A worker of
-- release 1 publishes it without a cut, and then the cut of the settings is their floor.
pub record Context : Type 0 where
  pub settings : Settings
  pub has_cut : Bool
  pub ranges : List (Range × List ℕ)

-- A lease names the worker that has a job, and the moment of its last heartbeat.
pub record Lease : Type 0 where
  pub worker : ℕ
  pub heartbeat : ℕ  -- in milliseconds

-- The record of a job: its spec, its status, the worker that has it, and the tables that it wrote.
pub record Job : Type 0 where
  pub id : ℕ
  pub spec : JobSpec
  pub status : Status
  pub lease : Option Lease
  pub attempt : ℕ  -- 0 before the first claim
  pub source_tables : List ℕ  -- the source nodes' tables as the job was opened
  pub context : Option Context  -- as the last heartbeat published it
  pub outputs : List (List ℕ)  -- range by range, the tables of a job that was made Compacted
  pub kept_cut : Option ℕ  -- the cut of the attempt that made the job Compacted, if its worker knew one

-- Jobs, by rising id.
abbrev pub Jobs : Type 0
Jobs = List Job

-- True if the job has this status.
abbrev pub has_status : Status → Job → Bool
has_status status job = status_eq status job.status

-- True if the job is not finished.
abbrev pub is_active : Job → Bool
is_active job = if is_finished job.status then false else true

-- The job with this id, if there is one.
abbrev pub job_with : ℕ → Jobs → Option Job
job_with id jobs = find (λ job. id == job.id) jobs

-- The ids of the jobs, in their order.
abbrev pub ids : Jobs → List ℕ
ids jobs = map (λ job. job.id) jobs

-- True if the number is in the list.
abbrev pub contains : List ℕ → ℕ → Bool
contains [] n = false
contains (x ∷ xs) n = if x == n then true else contains xs n

-- Inserts an id in front of the first greater id.
abbrev pub put_id : ℕ → List ℕ → List ℕ
put_id id ids = insert_before nat_lt id ids

-- The ids in rising order.
abbrev pub in_id_order : List ℕ → List ℕ
in_id_order [] = []
in_id_order (id ∷ others) = put_id id (in_id_order others)

-- Changes the jobs with these ids, and leaves all others as they are.
abbrev pub changed_jobs : (Job → Job) → List ℕ → Jobs → Jobs
changed_jobs change these jobs = map (λ job. if contains these job.id then change job else job) jobs

-- Inserts a job in front of the first job with a greater id.
abbrev pub put_job : Job → Jobs → Jobs
put_job new jobs = insert_before {A = Job} (λ a b. nat_lt a.id b.id) new jobs

-- True if more than the timeout, in milliseconds, has passed since the lease's last heartbeat, or if there
-- is no lease.
abbrev pub is_overdue : (timeout moment : ℕ) (lease : Option Lease) → Bool
is_overdue timeout moment None = true
is_overdue timeout moment (Some lease) = nat_lt timeout (moment - lease.heartbeat)

-- True if the job is Running and its lease is overdue.
abbrev pub is_stale : (timeout moment : ℕ) (job : Job) → Bool
is_stale timeout moment job = has_status Running job && is_overdue timeout moment job.lease

-- True if one of these jobs is finished.
abbrev pub finished_later : Jobs → Bool
finished_later [] = false
finished_later (job ∷ jobs) = is_finished job.status || finished_later jobs

-- The jobs that a put of the records keeps: all active jobs and, of the finished jobs, the one with the
-- greatest id.
abbrev pub trimmed_jobs : Jobs → Jobs
trimmed_jobs [] = []
trimmed_jobs (job ∷ jobs) =
    if is_active job then job ∷ trimmed_jobs jobs
    else (if finished_later jobs then trimmed_jobs jobs else job ∷ trimmed_jobs jobs)
