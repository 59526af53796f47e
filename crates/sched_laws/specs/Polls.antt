-- Laws about polls of a coordinator with one of these schedulers: a poll loses no job to the scheduler, and
-- refuses none of the jobs that it adds for the scheduler's proposals.
use Rattle.std.specs.Prelude.{◌≡◌, ℕ, ◌<◌, true, false, List, [], map}
use Rattle.std.specs.List.{AllByRecursion}
use Rattle.row_model.specs.Lists.{Pairs}
use Rattle.row_model.specs.Fold.{Operator}
use Rattle.fleet_model.specs.Jobs.{JobSpec, contains, ids}
use Rattle.fleet_model.specs.Work.Polls.{add_drawn, open_submitted, proposals}
use Rattle.fleet_model.specs.Work.PollStates.{PollInput, PollState}
use Rattle.fleet_model.specs.Work.Records.{firsts}
use Rattle.fleet_model.specs.Store.{Store}
use Rattle.step_model.specs.Steps.PollSteps.{freed_and_committed}
use Rattle.sched_model.specs.Levels.{LevelOptions, are_allowed, level_scheduler}
use Rattle.sched_model.specs.Series.{TieredOptions, are_tiered}
use Rattle.sched_model.specs.SizeTiered.{tiered_scheduler}
use Rattle.sched_laws.specs.Proposals.{HasFreeId}
use Rattle.sched_laws.specs.Stores.{StoreStands}

-- The poll got the manifest and the records of a store that stands.
pub record PollStands (merge : Operator) (input : PollInput) : Type 0 where
  pub store : Store
  pub stands : StoreStands merge store input.records
  pub manifest : store.manifest ≡ input.manifest

-- The ids that the poll drew for the proposals that it takes. They rise, and no job that the poll got has one
-- of them.
pub record AreDrawn (input : PollInput) (drawn : List (ℕ × JobSpec)) : Type 0 where
  pub specs : map (λ d. d.1) drawn ≡ proposals input (freed_and_committed input)
  pub rise : Pairs (λ a b. a.0 < b.0) drawn
  pub new : AllByRecursion (λ d. contains (ids input.records.jobs) d.0 ≡ false) drawn

-- The poll after its last step.
abbrev pub polled_state : PollInput → List (ℕ × JobSpec) → PollState
polled_state input drawn = open_submitted input (add_drawn 1 drawn (freed_and_committed input))

-- The poll loses no Compacted job. It refuses none of the jobs that it adds, unless its destination is
-- 4,294,967,295.
pub record AcceptsItsOwn (input : PollInput) (drawn : List (ℕ × JobSpec)) : Type 0 where
  pub lost : (polled_state input drawn).lost ≡ []
  pub refused : AllByRecursion (λ a. HasFreeId a.1 → contains (firsts (polled_state input drawn).refused) a.0 ≡ false)
      (polled_state input drawn).added

-- A poll with the size-tiered scheduler accepts its own jobs. Each passes the gate of submitted jobs as it is
-- asked, after the jobs that the poll opened, moved or drained before.
abbrev pub PollsAcceptTieredJobs : Operator → Type 0
PollsAcceptTieredJobs merge = (o : TieredOptions) → are_tiered o ≡ true → (most : ℕ)
    → (input : PollInput) → PollStands merge input → input.scheduler ≡ tiered_scheduler o most
    → (drawn : List (ℕ × JobSpec)) → AreDrawn input drawn → AcceptsItsOwn input drawn

-- So does a poll with the levelled scheduler.
abbrev pub PollsAcceptLevelJobs : Operator → Type 0
PollsAcceptLevelJobs merge = (o : LevelOptions) → are_allowed o ≡ true → (most : ℕ)
    → (input : PollInput) → PollStands merge input → input.scheduler ≡ level_scheduler o most
    → (drawn : List (ℕ × JobSpec)) → AreDrawn input drawn → AcceptsItsOwn input drawn
