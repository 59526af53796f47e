-- The proposals of the size-tiered scheduler on a view of a store.
use Rattle.std.specs.Prelude.{◌≡◌, ℕ, true, IsTrue, List, [], ◌∷◌, ◌++◌, Some, None}
use Rattle.std.specs.List.{AllByRecursion}
use Rattle.row_model.specs.Fold.{Operator}
use Rattle.fleet_model.specs.Work.Gates.{submit_gate}
use Rattle.fleet_model.specs.Invariants.Invariant.{StoreInvariant}
use Rattle.fleet_model.specs.Jobs.{Compacted, Job, Jobs, JobSpec, has_status}
use Rattle.fleet_model.specs.Invariants.JobsFit.{SourcesStand}
use Rattle.fleet_model.specs.Work.Scheduler.{View, shown_view}
use Rattle.fleet_model.specs.Store.{Records, Store}
use Rattle.sched_model.specs.Series.{TieredOptions, are_tiered}
use Rattle.sched_model.specs.SizeTiered.{tiered_proposals, tiered_validate}
use Rattle.sched_laws.specs.Proposals.{HasFreeId, MayBeThere}
use Rattle.sched_laws.specs.Views.{ViewStands}

-- The view of a store with these records.
abbrev pub store_view : Store → Records → View
store_view store records = shown_view store.tables store.manifest records records.jobs

-- The store meets its invariant and has these records. The sources of each Compacted job are as
-- `SourcesStand` says. The invariant alone allows a Compacted job whose sources are gone, since its join
-- took effect.
pub record StoreStands (merge : Operator) (store : Store) (records : Records) : Type 0 where
  pub invariant : StoreInvariant merge store
  pub stored : store.records ≡ Some records
  pub compacted : AllByRecursion
      (λ job. IsTrue (has_status Compacted job) → SourcesStand store.manifest.trees job) records.jobs

-- The view of a store that stands is as the laws on views ask.
abbrev pub ViewsOfStoresStand : Operator → Type 0
ViewsOfStoresStand merge = (store : Store) (records : Records) → StoreStands merge store records
    → ViewStands (store_view store records)

-- A job for a proposal on the view of a store passes the gate of submitted jobs, unless its destination is
-- 4,294,967,295. It passes beside the stored jobs, and beside jobs that were opened for the other proposals.
-- By then the scheduler may be shown a later view, with the same trees.
abbrev pub StoresAcceptProposals : Operator → Type 0
StoresAcceptProposals merge = (store : Store) (records : Records) → StoreStands merge store records
    → (o : TieredOptions) → are_tiered o ≡ true → (most : ℕ)
    → (before after : List JobSpec) (job : Job)
    → tiered_proposals o most (store_view store records) ≡ before ++ job.spec ∷ after → HasFreeId job.spec
    → (jobs : Jobs) → AllByRecursion (MayBeThere records.jobs (before ++ after) job.id) jobs
    → (later : View) → later.manifest.trees ≡ store.manifest.trees
    → submit_gate later.manifest.trees jobs [] (tiered_validate later) job ≡ None
