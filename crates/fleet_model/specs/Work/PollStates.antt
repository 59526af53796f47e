-- A poll begins with what it got, and changes trees and jobs step by step.
use Rattle.std.specs.Prelude.{ℕ, Bool, List, []}
use Rattle.fleet_model.specs.Nodes.{Tables, Trees}
use Rattle.fleet_model.specs.Jobs.{JobSpec, Jobs}
use Rattle.fleet_model.specs.History.{Step}
use Rattle.fleet_model.specs.Store.{Manifest, Records}
use Rattle.fleet_model.specs.Work.Scheduler.{View, Scheduler, shown_view}

-- The options of a poll.
pub record PollOptions : Type 0 where
  pub timeout : ℕ  -- how long a Running job may go without a heartbeat, in milliseconds
  pub concurrent : ℕ  -- bounds the Running jobs and the proposals that a poll takes, together
  pub moves : Bool  -- jobs whose tables lie apart are moved at once

-- What a poll depends on: its options, the scheduler that it asks, the tables, and the objects that it got.
pub record PollInput : Type 0 where
  pub options : PollOptions
  pub scheduler : Scheduler
  pub tables : Tables  -- all tables that were put
  pub manifest : Manifest
  pub records : Records
  pub moment : ℕ  -- in milliseconds

-- What a poll has reached so far: the trees, the horizon and the jobs, and what it did to reach them.
pub record PollState : Type 0 where
  pub trees : Trees
  pub horizon : ℕ
  pub jobs : Jobs
  pub steps : List Step  -- the steps on the trees, in order
  pub freed : List ℕ  -- stale jobs that wait for a worker again
  pub done : List ℕ  -- jobs that were committed
  pub lost : List (ℕ × ℕ)  -- jobs that the gate of commits refused, with the rule
  pub added : List (ℕ × JobSpec)
  pub dropped : List ℕ  -- the places of proposals, from 1
  pub opened : List ℕ  -- jobs that wait for a worker from now on
  pub moved : List ℕ
  pub drained : List ℕ
  pub refused : List (ℕ × ℕ)  -- jobs that the gate of submitted jobs refused, with the rule

-- The state of a poll before its first step, with the trees, the horizon and the jobs that it got.
abbrev pub poll_begun : Trees → ℕ → Jobs → PollState
poll_begun trees horizon jobs = record {
  trees = trees;
  horizon = horizon;
  jobs = jobs;
  steps = [];
  freed = [];
  done = [];
  lost = [];
  added = [];
  dropped = [];
  opened = [];
  moved = [];
  drained = [];
  refused = [];
}

-- The view that the scheduler is shown: it has the trees, the horizon and the jobs that the poll has
-- reached so far.
abbrev pub view_of : PollInput → PollState → View
view_of input p =
    shown_view input.tables (record input.manifest { trees = p.trees; horizon = p.horizon }) input.records p.jobs

-- True if the scheduler accepts the spec on the poll's present view.
abbrev pub accepts : PollInput → PollState → JobSpec → Bool
accepts input p spec = input.scheduler.validate (view_of input p) spec
