-- How a coordinator merges newer stored objects into its local state.
use Rattle.std.specs.Prelude.{ℕ, Bool, true, false, ◌==◌, if◌then◌else◌, [], ◌∷◌, ◌++◌, map, Option, Some, None}
use Rattle.fleet_model.specs.Nodes.{NodeName, L0, name_eq, is_l0, Tree, Segment, Trees, segment_at, runs_of}
use Rattle.fleet_model.specs.Jobs.{Status, Submitted, Scheduled, Running, Compacted, Job, Jobs, job_with, put_job}
use Rattle.fleet_model.specs.Store.{Manifest, Records}

-- The manifest and the records that a coordinator held at the end of its last step.
pub record Local : Type 0 where
  pub manifest : Manifest
  pub records : Records

-- ---- trees

-- The node is the flush that the watermark names.
abbrev pub is_watermark : Option ℕ → NodeName → Bool
is_watermark None name = false
is_watermark (Some flush) name = name_eq (L0 flush) name

-- The flushes of a tree that are newer than the watermark.
abbrev pub flushes_before : Option ℕ → Tree → Tree
flushes_before watermark [] = []
flushes_before watermark (node ∷ tree) =
    if is_watermark watermark node.name then []
    else (if is_l0 node.name then node ∷ flushes_before watermark tree else [])

-- A merged segment: the stored flushes that are newer than the local watermark, then the local
-- runs, with the local watermark. A stored segment without a local one stays as it is.
abbrev pub merged_segment : Option Segment → Segment → Segment
merged_segment None remote = remote
merged_segment (Some local) remote = record remote {
  tree = flushes_before local.watermark remote.tree ++ runs_of local.tree;
  watermark = local.watermark;
}

-- The merged trees: each stored segment merged with the local segment of its prefix.
abbrev pub merged_trees : (local remote : Trees) → Trees
merged_trees local remote = map (λ s. merged_segment (segment_at s.prefix local) s) remote

-- ---- jobs

-- A stored job of the second status replaces the local job of the first status. It does so for
-- these pairs and no others.
abbrev pub adopts : (local remote : Status) → Bool
adopts Submitted Compacted = true
adopts Scheduled Scheduled = true
adopts Scheduled Running = true
adopts Scheduled Compacted = true
adopts Running Scheduled = true
adopts Running Running = true
adopts Running Compacted = true
adopts Compacted Compacted = true
adopts _ _ = false

-- A stored job of this status is taken although it is not local. A Scheduled or Running job is not
-- taken, since only this coordinator could have opened it.
abbrev pub is_taken_new : Status → Bool
is_taken_new Scheduled = false
is_taken_new Running = false
is_taken_new _ = true

-- What becomes of a stored job, given the local job of its id, if any: the stored job, the local
-- one, or none.
abbrev pub taken_job : Option Job → Job → Option Job
taken_job None remote = if is_taken_new remote.status then Some remote else None
taken_job (Some local) remote = Some (if adopts local.status remote.status then remote else local)

-- The jobs with the job of this id replaced by the new one.
abbrev pub with_replaced : Job → Jobs → Jobs
with_replaced new jobs = map (λ job. if new.id == job.id then new else job) jobs

-- The local jobs after one stored job is merged in. The second argument is the local job of its id,
-- if any.
abbrev pub take_in : Job → Option Job → Jobs → Jobs
take_in remote None jobs = if is_taken_new remote.status then put_job remote jobs else jobs
take_in remote (Some local) jobs = if adopts local.status remote.status then with_replaced remote jobs else jobs

-- The local jobs after all stored jobs are merged in.
abbrev pub merged_jobs : (local remote : Jobs) → Jobs
merged_jobs local [] = local
merged_jobs local (remote ∷ jobs) = merged_jobs (take_in remote (job_with remote.id local) local) jobs
