-- Laws about the proposals of the size-tiered scheduler: they are few, make runs, hold no node twice, and pass
-- the gate of submitted jobs.
use Rattle.std.specs.Prelude.{◌≡◌, ◌≢◌, ℕ, ◌≤◌, length, true, false, IsTrue, List, [], ◌∷◌, ◌++◌, Some, None, Contains}
use Rattle.std.specs.List.{AllByRecursion}
use Rattle.row_model.specs.Lists.{Pairs}
use Rattle.fleet_model.specs.Work.Gates.{is_nonempty, reserves_nodes, submit_gate}
use Rattle.fleet_model.specs.Jobs.{Job, Jobs, JobSpec, is_drain, nodes_of}
use Rattle.fleet_model.specs.Work.Scheduler.{View}
use Rattle.fleet_model.specs.Sources.{is_apart}
use Rattle.sched_model.specs.Series.{TieredOptions, are_tiered}
use Rattle.sched_model.specs.SizeTiered.{free_slots, tiered_proposals, tiered_validate}
use Rattle.sched_laws.specs.Views.{ViewStands}

-- There are at most as many proposals as jobs may be added to those under way.
abbrev pub ProposalsAreFew : Type 0
ProposalsAreFew = (o : TieredOptions) (most : ℕ) (view : View)
    → length (tiered_proposals o most view) ≤ free_slots most view.jobs

-- The job has sources, and it makes a run of them.
pub record MakesRun (spec : JobSpec) : Type 0 where
  pub sources : IsTrue (is_nonempty spec.sources)
  pub no_drain : is_drain spec ≡ false

-- Each proposal has sources, and makes a run of them.
abbrev pub ProposalsMakeRuns : Type 0
ProposalsMakeRuns = (o : TieredOptions) → are_tiered o ≡ true → (most : ℕ) (view : View)
    → AllByRecursion MakesRun (tiered_proposals o most view)

-- The job has at least the least number of sources of the options, and at most the greatest.
pub record HasSourcesWithin (o : TieredOptions) (spec : JobSpec) : Type 0 where
  pub least : o.least ≤ length spec.sources
  pub most : length spec.sources ≤ o.most

-- Each proposal has at least the least number of sources of the options, and at most the greatest.
abbrev pub ProposalsHaveSourcesWithin : Type 0
ProposalsHaveSourcesWithin = (o : TieredOptions) → are_tiered o ≡ true → (most : ℕ) (view : View)
    → AllByRecursion (HasSourcesWithin o) (tiered_proposals o most view)

-- The destination is not 4,294,967,295. The gate refuses each job with this destination.
abbrev pub HasFreeId : JobSpec → Type 0
HasFreeId spec = spec.destination ≢ Some 4294967295

-- The nodes of both jobs are apart, unless the destination of one of them is 4,294,967,295.
abbrev pub AreApart : (a b : JobSpec) → Type 0
AreApart a b = HasFreeId a → HasFreeId b → IsTrue (is_apart (nodes_of a) (nodes_of b))

-- No two proposals hold the same node, unless the destination of one of them is 4,294,967,295.
abbrev pub ProposalsAreApart : Type 0
ProposalsAreApart = (o : TieredOptions) → are_tiered o ≡ true → (most : ℕ) (view : View) → ViewStands view
    → Pairs AreApart (tiered_proposals o most view)

-- A job that may be there when the job with this id is opened: that job itself, a job that holds no nodes,
-- a known job, or a job that was opened for one of the other proposals.
pub data MayBeThere (known : Jobs) (others : List JobSpec) (id : ℕ) (job : Job) : Type 0 where
  Itself : job.id ≡ id → MayBeThere known others id job
  HoldsNothing : reserves_nodes job ≡ false → MayBeThere known others id job
  Known : Contains known job → MayBeThere known others id job
  Opened : Contains others job.spec → HasFreeId job.spec → MayBeThere known others id job

-- A job for a proposal passes the gate of submitted jobs, unless its destination is 4,294,967,295. It passes
-- beside the jobs of the view, and beside jobs that were opened for the other proposals. By then the
-- scheduler may be shown a later view, with the same trees.
abbrev pub ProposalsPassTheGate : Type 0
ProposalsPassTheGate = (o : TieredOptions) → are_tiered o ≡ true → (most : ℕ) (view : View) → ViewStands view
    → (before after : List JobSpec) (job : Job) → tiered_proposals o most view ≡ before ++ job.spec ∷ after
    → HasFreeId job.spec
    → (jobs : Jobs) → AllByRecursion (MayBeThere view.jobs (before ++ after) job.id) jobs
    → (later : View) → later.manifest.trees ≡ view.manifest.trees
    → submit_gate later.manifest.trees jobs [] (tiered_validate later) job ≡ None
