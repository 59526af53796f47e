-- A settle line settles, if its scheduler sees to it.
use Rattle.std.specs.Prelude.{◌≡◌, ◌≢◌, ℕ, ◌+◌, ◌<◌, ◌≤◌, Bool, true, false, ◌⊎◌, IsTrue, List, [], map, flat_map, Some, None, is_some}
use Rattle.std.specs.List.{AllByRecursion}
use Rattle.row_model.specs.Lists.{Pairs}
use Rattle.row_model.specs.Fold.{Operator, IsLawful}
use Rattle.fleet_model.specs.Nodes.{Tables, Tree, Trees}
use Rattle.fleet_model.specs.Jobs.{JobSpec, Job, Scheduled, Compacted, has_status, is_active}
use Rattle.fleet_model.specs.Store.{Store, stored_jobs}
use Rattle.fleet_model.specs.Past.Replay.{named_specs}
use Rattle.fleet_model.specs.Handles.{Handle, handles_of, tree_tables}
use Rattle.fleet_model.specs.Work.Parties.{LiveWorker, worker_with}
use Rattle.fleet_model.specs.Work.Scheduler.{View, Scheduler}
use Rattle.fleet_model.specs.Invariants.JobsFit.{SourcesStand}
use Rattle.fleet_model.specs.Invariants.Invariant.{StoreInvariant}
use Rattle.step_model.specs.Steps.PollSteps.{PollAsk, first_steps, proposed_specs}
use Rattle.script_model.specs.Script.{Settle}
use Rattle.script_model.specs.States.{Inputs, State}
use Rattle.script_model.specs.Follows.{LineStep}
use Rattle.script_model.specs.Lines.Settles.{is_ok, has_active, settled_reply}
use Rattle.line_laws.specs.Alone.{HadRoom}
use Rattle.line_laws.specs.States.{StateKeeps}
use Rattle.line_laws.specs.Lines.PollRuns.{input_at, reached_state}
use Rattle.last_laws.specs.Weights.{IsHeavy, Lightens, trees_weight}

-- ---- what a scheduler sees to

-- The job makes another run than 4,294,967,295, which the gate refuses.
abbrev pub HasFreeId : ℕ × JobSpec → Type 0
HasFreeId named = named.1.destination ≢ Some 4294967295

-- An active job lightens the trees. It waits for a worker and has no context, or it is finished and its sources
-- are in the trees as they were.
abbrev pub WaitsOrStands : Trees → Job → Type 0
WaitsOrStands trees job = IsTrue (is_active job)
    → Lightens job.spec
    × ((IsTrue (has_status Scheduled job) × (job.context ≡ None))
    ⊎ (IsTrue (has_status Compacted job) × SourcesStand trees job))

-- A poll of a store that has records, keeps the invariant and has such jobs alone. The poll drew new and rising
-- ids for what the scheduler proposed. Each job that it adds has a free id of a run.
pub record CalmPoll (merge : Operator) (scheduler : Scheduler) (ask : PollAsk) (store : Store)
    (drawn : List (ℕ × JobSpec)) : Type 0 where
  pub asks : ask.scheduler ≡ scheduler
  pub whole : ask.commits_only ≡ false
  pub recorded : IsTrue (is_some store.records)
  pub stored : StoreInvariant merge store
  pub jobs : AllByRecursion (WaitsOrStands store.manifest.trees) (stored_jobs store)
  pub each : map (λ d. d.1) drawn ≡ proposed_specs ask (input_at ask store) (first_steps ask (input_at ask store))
  pub rise : Pairs (λ a b. a.0 < b.0) drawn
  pub fresh : AllByRecursion (λ d. AllByRecursion (λ job. job.id ≢ d.0) (stored_jobs store)) drawn
  pub free_ids : AllByRecursion HasFreeId (reached_state ask store drawn).added

-- A scheduler settles trees to sizes that this test gives, if it accepts each job, and if all that it proposes is
-- heavy. If no job is active, it proposes none only where each tree passes the test. And each job that such a
-- poll adds passes the gate as the poll comes to it, so that none is refused.
pub record Settling (scheduler : Scheduler) (is_small : List Handle → Tree → Bool) : Type 0 where
  pub accepts : (view : View) (spec : JobSpec) → scheduler.validate view spec ≡ true
  pub heavy : (view : View) → AllByRecursion IsHeavy (scheduler.propose view)
  pub quiet : (view : View) → view.jobs ≡ [] → scheduler.propose view ≡ []
      → AllByRecursion (λ s. IsTrue (is_small view.handles s.tree)) view.manifest.trees
  pub passes : (merge : Operator) (ask : PollAsk) (store : Store) (drawn : List (ℕ × JobSpec))
      → CalmPoll merge scheduler ask store drawn → (reached_state ask store drawn).refused ≡ []

-- ---- the line

-- Each tree passes the test, which is given the handles of all tables that the trees name.
abbrev pub AreSmall : (List Handle → Tree → Bool) → Tables → Trees → Type 0
AreSmall is_small tables trees =
    AllByRecursion (λ s. IsTrue (is_small (handles_of tables (flat_map tree_tables trees)) s.tree)) trees

-- A settle line ran from a state that keeps the invariant, and no step of it was refused. A poll may add a job,
-- and the worker has a slot. Before the line no job is active, and the worker runs none. No poll adds a job that
-- makes the greatest run.
pub record CalmLine (inputs : Inputs) (old : State) (coordinator worker rounds : ℕ) (answer : List ℕ) (new : State)
    : Type 0 where
  pub lawful : IsLawful inputs.merge
  pub keeps : StateKeeps inputs.merge old
  pub number : ℕ
  pub ran : LineStep inputs number old (Settle coordinator worker rounds) answer new
  pub had_room : HadRoom new.store
  pub not_refused : is_ok answer ≡ true
  pub some_place : 1 ≤ old.options.concurrent
  pub some_slot : 1 ≤ old.options.slots
  pub none_active : has_active old ≡ false
  pub idle : (w : LiveWorker) → worker_with worker old.parties ≡ Some w → w.attempts ≡ []
  pub free_ids : AllByRecursion (λ entry. AllByRecursion HasFreeId (named_specs entry.event)) new.store.history

-- The scheduler of such a line is settling. There are more rounds than the trees weigh, which is twice their
-- flushes and their runs.
pub record SettleLine (inputs : Inputs) (is_small : List Handle → Tree → Bool) (old : State)
    (coordinator worker rounds : ℕ) (answer : List ℕ) (new : State) : Type 0 where
  pub settling : Settling inputs.scheduler is_small
  pub line : CalmLine inputs old coordinator worker rounds answer new
  pub enough : trees_weight old.store.manifest.trees < rounds

-- The line settled in time. No job is active, and each tree passes the test.
pub record SettledSmall (is_small : List Handle → Tree → Bool) (old : State) (answer : List ℕ) (new : State)
    : Type 0 where
  pub round : ℕ
  pub says : answer ≡ settled_reply round
  pub in_time : round ≤ trees_weight old.store.manifest.trees + 1
  pub none_active : has_active new ≡ false
  pub small : AreSmall is_small new.store.tables new.store.manifest.trees

-- Such a settle line settles.
abbrev pub SettleLinesSettle : Type 0
SettleLinesSettle = (inputs : Inputs) (is_small : List Handle → Tree → Bool) (old : State)
    (coordinator worker rounds : ℕ) (answer : List ℕ) (new : State)
    → SettleLine inputs is_small old coordinator worker rounds answer new → SettledSmall is_small old answer new
