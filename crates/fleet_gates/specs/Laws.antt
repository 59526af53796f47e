-- Laws: how the nodes that jobs hold are kept while jobs are opened and end, and when the scheduler is asked.
use Rattle.std.specs.Prelude.{◌≡◌, ℕ, Bool, ◌++◌, List, [], ◌∷◌}
use Rattle.fleet_model.specs.Work.Gates.{commit_gate, submit_gate}
use Rattle.fleet_model.specs.Jobs.{Job, JobSpec, Jobs, changed_jobs, nodes_of}
use Rattle.fleet_model.specs.Nodes.{NodeName, Trees}
use Rattle.fleet_model.specs.Work.Records.{to_completed, to_failed, to_scheduled}
use Rattle.fleet_jobs.specs.Places.{held_nodes}
use Rattle.fleet_gates.specs.Held.{AreHeld, Decides, HoldsNone, IsAmong}
use Rattle.fleet_gates.specs.Rules.{accept_each, asked_last}

-- `held_nodes` gives the nodes that the jobs hold.
abbrev pub HeldNodesAreHeld : Type 0
HeldNodesAreHeld = (jobs : Jobs) (lost : List ℕ) → AreHeld (held_nodes jobs lost) jobs lost

-- The nodes that jobs hold decide rule 8 for a job whose id is not that of a job that holds nodes.
abbrev pub HeldNodesDecide : Type 0
HeldNodesDecide = (nodes : List NodeName) (jobs : Jobs) (lost : List ℕ) (job : Job)
    → AreHeld nodes jobs lost → HoldsNone jobs lost job.id → Decides nodes jobs lost job

-- A job that is opened holds its nodes from then on.
abbrev pub OpenedJobsHoldTheirNodes : Type 0
OpenedJobsHoldTheirNodes = (tables_of : JobSpec → List ℕ) (nodes : List NodeName) (jobs : Jobs) (lost : List ℕ)
    (job : Job)
    → AreHeld nodes jobs lost → IsAmong job jobs
    → AreHeld (nodes ++ nodes_of job.spec) (changed_jobs (to_scheduled tables_of) (job.id ∷ []) jobs) lost

-- A job whose commit failed by the scheduler's rule holds its nodes whatever its status is.
abbrev pub LostJobsHoldTheirNodes : Type 0
LostJobsHoldTheirNodes = (nodes : List NodeName) (jobs : Jobs) (lost : List ℕ) (job : Job)
    → AreHeld nodes jobs lost → IsAmong job jobs → AreHeld (nodes ++ nodes_of job.spec) jobs (lost ++ job.id ∷ [])

-- If a job that held no nodes is changed so, the jobs hold the same nodes.
abbrev pub KeepsHeld : (Job → Job) → Type 0
KeepsHeld change = (nodes : List NodeName) (jobs : Jobs) (lost : List ℕ) (id : ℕ)
    → AreHeld nodes jobs lost → HoldsNone jobs lost id → AreHeld nodes (changed_jobs change (id ∷ []) jobs) lost

-- If a job that held no nodes is completed or fails, the jobs hold the same nodes.
pub record EndedJobsHoldNone : Type 0 where
  pub completed : KeepsHeld to_completed
  pub failed : KeepsHeld to_failed

-- Each gate asks the scheduler last, and only if all other rules hold.
pub record SchedulersAreAskedLast : Type 0 where
  pub submit : (trees : Trees) (jobs : Jobs) (lost : List ℕ) (accepts : JobSpec → Bool) (job : Job)
      → submit_gate trees jobs lost accepts job
      ≡ asked_last (accepts job.spec) (submit_gate trees jobs lost accept_each job)
  pub commit : (trees : Trees) (accepts : JobSpec → Bool) (job : Job)
      → commit_gate trees accepts job ≡ asked_last (accepts job.spec) (commit_gate trees accept_each job)
