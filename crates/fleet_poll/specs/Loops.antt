-- What a poll reaches by a step for each of several jobs, and when it may take it.
use Rattle.std.specs.Prelude.{◌≡◌, ℕ, ◌==◌, Bool, true, false, not, List, [], ◌∷◌, IsSome, Option, Some, None, ⊤, if◌then◌else◌}
use Rattle.std.specs.List.{AllByRecursion}
use Rattle.fleet_model.specs.Invariants.JobsFit.{SourcesStand}
use Rattle.fleet_model.specs.Jobs.{Compacted, Job, JobSpec, Jobs, Submitted, changed_jobs, has_status, nodes_of}
use Rattle.fleet_model.specs.Nodes.{NodeName}
use Rattle.fleet_model.specs.Work.Gates.{commit_gate, reserves_nodes}
use Rattle.fleet_model.specs.Work.Records.{to_completed, to_failed, to_scheduled}
use Rattle.fleet_model.specs.Work.PollStates.{PollInput, PollState, accepts}
use Rattle.fleet_model.specs.Work.Polls.{commit_job}
use Rattle.fleet_model.specs.Work.Scheduler.{Scheduler}
use Rattle.fleet_tree.specs.Trees.{RunFlushes}
use Rattle.fleet_tree.specs.declared.manifest.ManifestCore.{ManifestCore}
use Rattle.fleet_jobs.specs.Parts.JobParts.{JobParts}
use Rattle.fleet_jobs.specs.Jobs.{is_open, job_of, jobs_of}
use Rattle.fleet_jobs.specs.Places.{sources_stand}
use Rattle.fleet_jobs.specs.Specs.{destination_of}
use Rattle.fleet_book.specs.Records.{record_with}
use Rattle.fleet_book.specs.StateParts.{StateParts}
use Rattle.fleet_book.specs.States.{own_jobs}
use Rattle.fleet_poll.specs.Made.{EndsRise, written_tables}
use Rattle.fleet_poll.specs.Polls.{poll_of}
use Rattle.fleet_poll.specs.Seen.{Sees}
use Rattle.fleet_poll.specs.declared.poll.Poll.{Poll}

-- The poll has reached what the model's poll has, with some account of which flushes went into which runs.
pub record HasReached (poll : Poll) (reached : PollState) : Type 0 where
  pub flushes : RunFlushes
  pub is : poll_of flushes poll ≡ reached

-- The job may be joined: it makes a run, its worker's tables have their keys in order, and its sources stand.
pub record MayJoin (job : JobParts) (core : ManifestCore) : Type 0 where
  pub run : IsSome (destination_of job.spec)
  pub keys : EndsRise (written_tables job)
  pub stand : sources_stand job.spec core ≡ true

-- True if the job is Compacted.
abbrev pub is_compacted : JobParts → Bool
is_compacted job = has_status Compacted (job_of job)

-- The sources of each of these jobs stand in the trees that the poll has reached when the job's turn comes, unless the
-- job fails a rule of the gate.
abbrev pub CommitsStand : PollInput → Jobs → PollState → Type 0
CommitsStand input [] p = ⊤
CommitsStand input (job ∷ jobs) p =
    (commit_gate p.trees (accepts input p) job ≡ None → SourcesStand p.trees job)
    × CommitsStand input jobs (commit_job input job p)

-- These jobs may be committed one after the other.
pub record MayCommit (scheduler : Scheduler) (jobs : List JobParts) (poll : Poll) : Type 0 where
  pub flushes : RunFlushes
  pub input : PollInput
  pub sees : Sees input scheduler poll.state
  pub stand : CommitsStand input (jobs_of jobs) (poll_of flushes poll)

-- The step for the job with this id leaves the records of all other jobs as they are.
abbrev pub OthersStay : (id : ℕ) (old new : StateParts) → Type 0
OthersStay id old new =
    (other : ℕ) → (id == other) ≡ false → record_with other (own_jobs new) ≡ record_with other (own_jobs old)

-- What an input says of the state before a step, it says of the state after it.
abbrev pub StillSees : (old new : StateParts) → Type 0
StillSees old new = (input : PollInput) (scheduler : Scheduler) → Sees input scheduler old → Sees input scheduler new

-- True if the job is Submitted.
abbrev pub is_submitted : JobParts → Bool
is_submitted job = has_status Submitted (job_of job)

-- True if there is a job and it is over.
abbrev pub is_over_if_there : Option JobParts → Bool
is_over_if_there None = false
is_over_if_there (Some job) = not (is_open job)

-- Each job that the gate for commits refused is there, and is over.
abbrev pub LostAreOver : Poll → Type 0
LostAreOver poll = AllByRecursion (λ lost. is_over_if_there (record_with lost.0 (own_jobs poll.state)) ≡ true) poll.lost

-- The jobs after step 4 for the job with this id: it failed, is completed, or waits for a worker.
pub data IsDecided (id : ℕ) (old new : Jobs) : Type 0 where
  Fails : new ≡ changed_jobs to_failed (id ∷ []) old → IsDecided id old new
  Ends : new ≡ changed_jobs to_completed (id ∷ []) old → IsDecided id old new
  Waits : (tables_of : JobSpec → List ℕ) → new ≡ changed_jobs (to_scheduled tables_of) (id ∷ []) old
      → IsDecided id old new

-- What step 4 for the job with this id leaves as it is, and what becomes of the jobs, whatever it decides.
pub record IsDecision (id : ℕ) (old new : Poll) : Type 0 where
  pub others : OthersStay id old.state new.state
  pub sees : StillSees old.state new.state
  pub lost : new.lost ≡ old.lost
  pub jobs : IsDecided id (jobs_of (own_jobs old.state)) (jobs_of (own_jobs new.state))

-- The nodes that the job holds, if there is a job and it holds nodes.
abbrev pub nodes_held : Option Job → List NodeName
nodes_held None = []
nodes_held (Some job) = if reserves_nodes job then nodes_of job.spec else []

-- The nodes of the job, if there is one.
abbrev pub nodes_if_there : Option Job → List NodeName
nodes_if_there None = []
nodes_if_there (Some job) = nodes_of job.spec

-- The nodes that a job holds after its commit failed by this rule. It holds them only if this is the scheduler's rule.
abbrev pub nodes_lost : ℕ → Option Job → List NodeName
nodes_lost rule found = if rule == 0 then nodes_if_there found else []
