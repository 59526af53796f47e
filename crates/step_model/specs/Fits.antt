-- When a worker and a coordinator fit a store: what they hold of it is still so.
use Rattle.std.specs.Prelude.{◌≡◌, ℕ, ◌<◌, ◌≤◌, IsTrue, IfSome, is_some, List, Option, Some, None, ⊤, nat_lt, ◌&&◌}
use Rattle.std.specs.List.{AllByRecursion, list_any}
use Rattle.row_model.specs.Lists.{Pairs}
use Rattle.row_model.specs.Rows.{IsStrictlyOrdered}
use Rattle.row_model.specs.Fold.{Operator}
use Rattle.fleet_model.specs.Nodes.{segment_at}
use Rattle.fleet_model.specs.Jobs.{JobSpec, Job, Jobs, job_with, is_finished}
use Rattle.fleet_model.specs.History.{Coordinator, Worker}
use Rattle.fleet_model.specs.Store.{Store, stored_jobs, records_epoch}
use Rattle.fleet_model.specs.Handles.{context_tables}
use Rattle.fleet_model.specs.Work.Attempts.{source_rows}
use Rattle.fleet_model.specs.Work.Parties.{Attempt, LiveWorker, LiveCoordinator, live_attempts}
use Rattle.fleet_model.specs.Invariants.AttemptsFit.{WorkerFits}
use Rattle.step_model.specs.Past.{World}
use Rattle.step_model.specs.Entries.{was_claimed, did_put_epoch, was_named}
use Rattle.step_model.specs.Kept.Faithful.{Faithful}
use Rattle.step_model.specs.Kept.TablesKept.{AreApart}
use Rattle.step_model.specs.LawfulTables.{MayUse}
use Rattle.step_model.specs.Steps.Merging.{Local, merged_trees, taken_job}

-- ---- a worker

-- The worker claimed the attempt, live or not. Attempts are counted from 1, so the attempt is at no
-- Submitted job, whose sources are not known before a poll opens it. Its source tables are those of
-- its job, if the job is stored, and their rows are strictly ordered.
pub record AttemptHeld (world : World) (worker : ℕ) (a : Attempt) : Type 0 where
  pub counted : 0 < a.number
  pub claimed : IsTrue (was_claimed world.store.history worker a.job a.number)
  pub ordered : IsStrictlyOrdered (source_rows world.store.tables a.sources)
  pub sources : IfSome (job_with a.job (stored_jobs world.store)) (λ job. a.sources ≡ job.source_tables)

-- The tables that the attempt has noted.
abbrev pub noted_tables : Attempt → List ℕ
noted_tables a = context_tables (Some a.context)

-- The worker may name the tables that it has noted for the attempt, if the attempt's job is stored.
abbrev pub NotesOwn : World → ℕ → Attempt → Type 0
NotesOwn world worker a =
    IfSome (job_with a.job (stored_jobs world.store))
    (λ job. AllByRecursion (MayUse (Worker worker) world job) (noted_tables a))

-- A worker holds what fits by every faithful replay. It runs each job once, it may name the tables
-- that it has noted for its live attempts, and it has noted each of them for one live attempt.
pub record WorkerHolds (merge : Operator) (world : World) (w : LiveWorker) : Type 0 where
  pub fits : (specs : ℕ → JobSpec) → Faithful world specs → WorkerFits merge world.store specs w
  pub each : AllByRecursion (AttemptHeld world w.number) w.attempts
  pub jobs_rise : Pairs (λ a b. a.job < b.job) w.attempts
  pub own : AllByRecursion (NotesOwn world w.number) (live_attempts (stored_jobs world.store) w)
  pub apart : Pairs (λ a b. AreApart (noted_tables a) (noted_tables b)) (live_attempts (stored_jobs world.store) w)

-- ---- a coordinator

-- A finished job with a greater id is among the jobs.
abbrev pub IsOutlived : Jobs → Job → Type 0
IsOutlived jobs job = IsTrue (list_any (λ other. is_finished other.status && nat_lt job.id other.id) jobs)

-- A local job has a stored job with its id. Otherwise it is finished, and a put dropped it from the
-- records because a later job is finished too.
abbrev pub IsStillStored : Jobs → Job → Option Job → Type 0
IsStillStored jobs job None = IsTrue (is_finished job.status) × IsOutlived jobs job
IsStillStored jobs job (Some other) = ⊤

-- Merging the stored jobs into the local ones gives the stored ones, but for finished local jobs
-- that are no longer stored.
pub record JobsMerge (local stored : Jobs) : Type 0 where
  pub stored_stay : AllByRecursion (λ job. taken_job (job_with job.id local) job ≡ Some job) stored
  pub local_stay : AllByRecursion (λ job. IsStillStored stored job (job_with job.id stored)) local

-- Merging the stored objects into the local state gives the stored ones.
pub record Merges (local : Local) (store : Store) : Type 0 where
  pub trees : merged_trees local.manifest.trees store.manifest.trees ≡ store.manifest.trees
  pub jobs : JobsMerge local.records.jobs (stored_jobs store)

-- If there is a local state, merging the stored objects into it gives the stored ones.
abbrev pub MergesIfThere : Option Local → Store → Type 0
MergesIfThere None store = ⊤
MergesIfThere (Some local) store = Merges local store

-- The segment with this prefix is stored.
abbrev pub IsStoredPrefix : World → List ℕ → Type 0
IsStoredPrefix world prefix = IsTrue (is_some (segment_at prefix world.store.manifest.trees))

-- Each segment of the local state is stored, and each local job was named by a put that took effect.
-- So a flush into a new segment meets no local one, and a new job has the id of no local one.
pub record LocalIsKnown (world : World) (local : Local) : Type 0 where
  pub segments : AllByRecursion (λ s. IsStoredPrefix world s.prefix) local.manifest.trees
  pub jobs : AllByRecursion (λ job. IsTrue (was_named world.store.history job.id)) local.records.jobs

-- If there is a local state, its segments and jobs are known.
abbrev pub KnownIfThere : World → Option Local → Type 0
KnownIfThere world None = ⊤
KnownIfThere world (Some local) = LocalIsKnown world local

-- A coordinator put its epoch into the manifest, and the records have this epoch or a later one.
-- Epochs are counted from 1, so there are records. If no stored epoch is above its own, its local
-- state says nothing else than what is stored, and its segments and jobs are known.
pub record CoordinatorHolds (world : World) (c : LiveCoordinator) (local : Option Local) : Type 0 where
  pub counted : 0 < c.epoch
  pub put : IsTrue (did_put_epoch (Coordinator c.number) world.store.history c.epoch)
  pub recorded : c.epoch ≤ records_epoch world.store.records
  pub merges : world.store.manifest.epoch ≤ c.epoch → records_epoch world.store.records ≤ c.epoch
      → MergesIfThere local world.store
  pub known : world.store.manifest.epoch ≤ c.epoch → records_epoch world.store.records ≤ c.epoch
      → KnownIfThere world local
