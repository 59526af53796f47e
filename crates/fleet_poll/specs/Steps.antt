-- What a poll reaches by several of its steps.
use Rattle.std.specs.Prelude.{◌≡◌, ℕ, Bool, List, filter, if◌then◌else◌}
use Rattle.fleet_model.specs.Jobs.{Compacted, JobSpec, has_status}
use Rattle.fleet_model.specs.Work.PollStates.{PollInput, PollState}
use Rattle.fleet_model.specs.Work.Polls.{add_drawn, free_stale, open_submitted}
use Rattle.fleet_model.specs.Work.Scheduler.{Scheduler}
use Rattle.fleet_sched.specs.declared.options.CompactorOptions.{CompactorOptions}
use Rattle.fleet_tree.specs.Trees.{RunFlushes}
use Rattle.fleet_poll.specs.Loops.{CommitsStand}
use Rattle.fleet_poll.specs.Polls.{poll_of}
use Rattle.fleet_poll.specs.Seen.{Sees}
use Rattle.fleet_poll.specs.declared.poll.Poll.{Poll}

-- What a poll has reached before step 2. A poll that only commits frees no job.
abbrev pub freed_unless : (commits_only : Bool) → PollInput → PollState → PollState
freed_unless commits_only input p = if commits_only then p else free_stale input p

-- What a poll has reached after step 4, given the ids that were drawn. A poll that only commits adds and opens no job.
abbrev pub opened_unless : (commits_only : Bool) → PollInput → List (ℕ × JobSpec) → PollState → PollState
opened_unless commits_only input drawn p = if commits_only then p else open_submitted input (add_drawn 1 drawn p)

-- The input has the options by which stale jobs are found, and the moment.
pub record SeesStale (input : PollInput) (options : CompactorOptions) (moment : ℕ) : Type 0 where
  pub timeout : input.options.timeout ≡ options.worker_heartbeat_timeout_ms
  pub moment_is : input.moment ≡ moment

-- The first two steps may be taken: after step 1, the Compacted jobs may be committed one after the other.
pub record MayBegin (scheduler : Scheduler) (options : CompactorOptions) (moment : ℕ) (commits_only : Bool)
    (poll : Poll) : Type 0 where
  pub flushes : RunFlushes
  pub input : PollInput
  pub sees : Sees input scheduler poll.state
  pub stale : SeesStale input options moment
  pub stand :
      let p = freed_unless commits_only input (poll_of flushes poll) in
      CommitsStand input (filter (has_status Compacted) p.jobs) p
