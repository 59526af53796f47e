-- What the record of a job shows.
use Rattle.std.specs.Prelude.{ℕ, List, Option}
use Rattle.fleet_tree.specs.declared.handle.SsTableHandle.{SsTableHandle}
use Rattle.fleet_jobs.specs.Parts.ContextParts.{ContextParts}
use Rattle.fleet_jobs.specs.declared.spec.CompactionSpec.{CompactionSpec}
use Rattle.fleet_jobs.specs.declared.status.CompactionStatus.{CompactionStatus}
use Rattle.fleet_jobs.specs.declared.worker_spec.WorkerSpec.{WorkerSpec}

-- What a `Compaction` shows.
pub record JobParts : Type 0 where
  pub id : ℕ
  pub spec : CompactionSpec
  pub bytes_processed : ℕ
  pub status : CompactionStatus
  pub worker : Option WorkerSpec
  pub attempt : ℕ  -- 0 before the first claim
  pub source_tables : List ℕ  -- the ids of the sources' tables when the job was scheduled
  pub ctx : Option ContextParts
  pub outputs : List (List SsTableHandle)  -- range by range, the tables that were written
  pub cut : Option ℕ  -- the cut of the attempt that wrote the tables, if its worker knew one
