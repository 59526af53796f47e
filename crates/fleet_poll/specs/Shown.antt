-- What a poll shows to the gate for submitted jobs, and what the model's gate says.
use Rattle.std.specs.Prelude.{◌≡◌, ℕ, filter, Option, Some, None}
use Rattle.fleet_model.specs.Work.Gates.{commit_gate, submit_gate}
use Rattle.fleet_model.specs.Jobs.{Job}
use Rattle.fleet_model.specs.Work.Polls.{lost_to_scheduler}
use Rattle.fleet_model.specs.Work.PollStates.{PollInput, PollState, accepts}
use Rattle.fleet_model.specs.Work.Scheduler.{Scheduler}
use Rattle.fleet_tree.specs.Trees.{RunFlushes, trees_of}
use Rattle.fleet_jobs.specs.Jobs.{is_open, job_of}
use Rattle.fleet_jobs.specs.Parts.JobParts.{JobParts}
use Rattle.fleet_book.specs.StateParts.{StateParts}
use Rattle.fleet_book.specs.States.{own_jobs}
use Rattle.fleet_book.specs.Versions.{with_jobs}
use Rattle.fleet_book.specs.declared.view.CompactorStateView.{CompactorStateView}
use Rattle.fleet_gates.specs.Shown.{accepted_on}
use Rattle.fleet_poll.specs.Made.{own_core}

-- The view that a coordinator with this state shows: the manifest, and the jobs that are not over.
abbrev pub open_view : StateParts → CompactorStateView
open_view state = record {
  manifest = state.manifest;
  compactions = Some (with_jobs (filter is_open (own_jobs state)) state.compactions);
}

-- What the model's gate for submitted jobs says of a job in step 4.
abbrev pub rule_of_gate : PollInput → Job → PollState → Option ℕ
rule_of_gate input job p = submit_gate p.trees p.jobs (lost_to_scheduler p.lost) (accepts input p) job

-- What the model's gate for commits says of a job in this state, if it is asked by this scheduler.
abbrev pub commit_rule : (flushes : RunFlushes) (scheduler : Scheduler) (state : StateParts) (job : JobParts) → Option ℕ
commit_rule flushes scheduler state job =
    commit_gate (trees_of flushes (own_core state)) (accepted_on flushes (open_view state) scheduler) (job_of job)

-- The job passes the gate for commits in this state, whichever flushes went into runs.
abbrev pub PassesCommit : Scheduler → StateParts → JobParts → Type 0
PassesCommit scheduler state job = (flushes : RunFlushes) → commit_rule flushes scheduler state job ≡ None
