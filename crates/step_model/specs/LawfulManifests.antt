-- When a put of the manifest is lawful, given that it is for the stored version.
use Rattle.std.specs.Prelude.{◌≡◌, ℕ, ◌<◌, ◌≤◌, int_le, ℤ, true, false, not, ◌||◌, IsTrue, IfSome, List, [], ◌∷◌, filter, Option, Some, None, ⊤}
use Rattle.std.specs.List.{AllByRecursion, concat}
use Rattle.fleet_model.specs.Nodes.{table_rows, Trees, tree_at, segment_at, last_seq_of}
use Rattle.fleet_model.specs.Jobs.{JobSpec, is_drain, Job, Jobs, Submitted, Compacted, has_status, job_with, contains, drawn_base}
use Rattle.fleet_model.specs.History.{Party, Writer, Coordinator, Step, Join, Move, Drain, ManifestChange, ManifestEpoch, Flush, Commit, Entry}
use Rattle.fleet_model.specs.Store.{Manifest, stored_jobs, records_epoch, is_held}
use Rattle.fleet_model.specs.Tracker.{tracked_after, least_seq_of}
use Rattle.fleet_model.specs.Trees.{flushed_trees, stepped_in, stepped_all, horizon_after_all, job_of, source_pieces, by_first_key, are_apart}
use Rattle.fleet_model.specs.Work.Records.{new_job}
use Rattle.fleet_model.specs.Past.Replay.{outputs_in}
use Rattle.fleet_model.specs.Invariants.JobsFit.{was_joined}
use Rattle.fleet_model.specs.Work.Gates.{submit_gate, commit_gate, is_nonempty}
use Rattle.step_model.specs.Past.{World}
use Rattle.step_model.specs.Entries.{drew_job, is_mentioned, was_flushed, did_put_epoch}

-- ---- an epoch

-- A coordinator may raise the manifest's epoch and change nothing else. So the epoch of the records
-- stays at most that of the manifest, and no epoch is put twice.
pub record ManifestEpochFits (party : Party) (world : World) (epoch : ℕ) (value : Manifest) : Type 0 where
  pub number : ℕ
  pub by : party ≡ Coordinator number
  pub above : world.store.manifest.epoch < epoch
  pub makes : value ≡ record world.store.manifest { epoch = epoch }

-- ---- a flush

-- The sequence is above the last one, if there is a last one.
abbrev pub IsAbove : Option ℕ → ℕ → Type 0
IsAbove None seq = ⊤
IsAbove (Some last) seq = last < seq

-- The writer may bring a table to a tree if the table is held and was never flushed before, and if
-- its sequences are above the last one of the tree. The floor and the tick may rise and may not
-- fall.
pub record FlushFits (party : Party) (world : World) (name : ℕ) (segment : List ℕ) (floor : ℕ) (tick : ℤ)
    (value : Manifest) : Type 0 where
  pub by : party ≡ Writer
  pub held : IsTrue (is_held world.store name)
  pub is_name : name < drawn_base
  pub once : was_flushed world.store.history name ≡ false
  pub newer : AllByRecursion (λ r. IsAbove (last_seq_of (segment_at segment world.store.manifest.trees)) r.seq)
      (table_rows world.store.tables name)
  pub floor_stays : world.store.manifest.floor ≤ floor
  pub tick_stays : IsTrue (int_le world.store.manifest.tick tick)
  pub moment : ℕ
  pub retention : ℕ
  pub makes : value ≡ record world.store.manifest {
    trees = flushed_trees segment name (table_rows world.store.tables name) world.store.manifest.trees;
    floor = floor;
    tick = tick;
    tracker =
        tracked_after moment retention (least_seq_of (table_rows world.store.tables name)) world.store.manifest.tracker;
  }

-- ---- a commit

-- The jobs whose nodes the steps of a commit must leave alone. A job that this commit or an earlier
-- one joined is not among them, because its run is in the tree already.
abbrev pub holding : List Entry → List ℕ → Jobs → Jobs
holding history joined jobs = filter (λ job. not (contains joined job.id || was_joined history job.id)) jobs

-- A commit may join a Compacted job whose sources are in the trees with the tables that they had
-- when the job was opened. A second join of a job must change no tree.
pub record JoinFits (world : World) (trees : Trees) (joined : List ℕ) (id : ℕ) : Type 0 where
  pub job : Job
  pub stored : job_with id (stored_jobs world.store) ≡ Some job
  pub finished : IsTrue (has_status Compacted job)
  pub gate : commit_gate trees (λ spec. true) job ≡ None
  pub once : contains joined id ≡ false
  pub again : IsTrue (was_joined world.store.history id)
      → stepped_in world.store.tables (Join id) job.spec (concat job.outputs) trees ≡ trees

-- A commit may do a job at once, without a worker, if the job is Submitted or not stored yet and
-- passes the rules on nodes.
pub record AtOnceFits (world : World) (trees : Trees) (joined : List ℕ) (spec : JobSpec) (id : ℕ) : Type 0 where
  pub open_yet : IfSome (job_with id (stored_jobs world.store)) (λ job. IsTrue (has_status Submitted job))
  pub gate : submit_gate trees (holding world.store.history joined (stored_jobs world.store)) [] (λ other. true)
      (new_job (id, spec)) ≡ None

-- A commit may move a job's sources into a run at once if they have tables, which lie apart.
pub record MoveFits (world : World) (trees : Trees) (joined : List ℕ) (spec : JobSpec) (id : ℕ) : Type 0 where
  pub at_once : AtOnceFits world trees joined spec id
  pub kind : is_drain spec ≡ false
  pub pieces : IsTrue (is_nonempty (source_pieces spec.sources (tree_at spec.segment trees)))
  pub apart : IsTrue
      (are_apart world.store.tables
      (by_first_key world.store.tables (source_pieces spec.sources (tree_at spec.segment trees))))

-- A commit does a drain at once.
pub record DrainFits (world : World) (trees : Trees) (joined : List ℕ) (spec : JobSpec) (id : ℕ) : Type 0 where
  pub at_once : AtOnceFits world trees joined spec id
  pub kind : is_drain spec ≡ true

-- A step of a commit fits these trees. `joined` has the jobs that earlier steps of the commit
-- joined, and the spec is that of the step's job.
abbrev pub StepFits : (world : World) (trees : Trees) → (joined : List ℕ) → (spec : JobSpec) (step : Step) → Type 0
StepFits world trees joined spec (Join id) = JoinFits world trees joined id
StepFits world trees joined spec (Move id) = MoveFits world trees joined spec id
StepFits world trees joined spec (Drain id) = DrainFits world trees joined spec id

-- The joined jobs after a step.
abbrev pub joined_after : Step → List ℕ → List ℕ
joined_after (Join id) joined = id ∷ joined
joined_after (Move id) joined = joined
joined_after (Drain id) joined = joined

-- Each step of a commit fits the trees that the steps before it left.
abbrev pub StepsFit : (world : World) (specs : ℕ → JobSpec) (trees : Trees) → (joined : List ℕ) → (steps : List Step)
    → Type 0
StepsFit world specs trees joined [] = ⊤
StepsFit world specs trees joined (step ∷ steps) =
    StepFits world trees joined (specs (job_of step)) step
    × StepsFit world specs
    (stepped_in world.store.tables step (specs (job_of step)) (outputs_in world.store.records (job_of step)) trees)
    (joined_after step joined) steps

-- Only the coordinator that put the stored epoch may commit a step, and only if the records have
-- that epoch too. Any party may commit no step.
abbrev pub MayCommit : Party → World → List Step → Type 0
MayCommit party world [] = ⊤
MayCommit party world (step ∷ steps) =
    IsTrue (did_put_epoch party world.store.history world.store.manifest.epoch)
    × (records_epoch world.store.records ≡ world.store.manifest.epoch)

-- The specs are right for a job that a commit does. A stored job has its own spec. A job that is
-- not stored has an id that the party drew, and no entry mentions it yet.
abbrev pub IsKnownTo : (party : Party) (world : World) (specs : ℕ → JobSpec) (id : ℕ) → Type 0
IsKnownTo party world specs id = by (job_with id (stored_jobs world.store))
  where
    by : Option Job → Type 0
    by None = IsTrue (drew_job party world.store.history id) × (is_mentioned world.store.history id ≡ false)
    by (Some job) = specs id ≡ job.spec

-- The cut that the job kept, if there is a job and it kept one.
abbrev pub cut_of : Option Job → Option ℕ
cut_of None = None
cut_of (Some job) = job.kept_cut

-- A party may commit steps that fit one after the other. The manifest has the trees and the horizon
-- that the steps make of the stored ones, and is else the stored one.
pub record CommitFits (party : Party) (world : World) (steps : List Step) (value : Manifest) : Type 0 where
  pub by : MayCommit party world steps
  pub specs : ℕ → JobSpec
  pub known : AllByRecursion (λ step. IsKnownTo party world specs (job_of step)) steps
  pub each : StepsFit world specs world.store.manifest.trees [] steps
  pub makes : value ≡ record world.store.manifest {
    trees =
        stepped_all world.store.tables
        (λ id. (specs id, outputs_in world.store.records id)) steps world.store.manifest.trees;
    horizon =
        horizon_after_all world.store.manifest.floor
        (λ id. cut_of (job_with id (stored_jobs world.store))) steps world.store.manifest.horizon;
  }

-- ---- all changes

-- A manifest may be put for an epoch, a flush or a commit that fits.
abbrev pub ManifestFits : (party : Party) (world : World) (change : ManifestChange) (value : Manifest) → Type 0
ManifestFits party world (ManifestEpoch epoch) value = ManifestEpochFits party world epoch value
ManifestFits party world (Flush name segment floor tick) value = FlushFits party world name segment floor tick value
ManifestFits party world (Commit steps) value = CommitFits party world steps value
