-- The view of a store that stands, and the proposals on it.
use Rattle.std.proofs.Common.{◌≡◌, subst, ℕ, List, [], ◌∷◌, ◌++◌, cond, Bool, true, false, ◌||◌}
use Rattle.std.specs.Prelude.{None, IsTrue, filter}
use Rattle.std.specs.List.{AllByRecursion}
use Rattle.row_model.specs.Lists.{Pairs}
use Rattle.row_model.specs.Fold.{Operator}
use Rattle.fleet_model.specs.Work.Gates.{are_distinct, reserves_nodes, submit_gate}
use Rattle.fleet_model.specs.Jobs.{Compacted, Job, Jobs, JobSpec, Running, Scheduled, has_status, is_active}
use Rattle.fleet_model.specs.Invariants.JobsFit.{OpenedStands, SourcesStand}
use Rattle.fleet_model.specs.Nodes.{Segment, Trees, names}
use Rattle.fleet_model.specs.Work.Scheduler.{View}
use Rattle.fleet_model.specs.Store.{Records, Store, WerePut, jobs_in}
use Rattle.fleet_model.specs.Invariants.TreesFit.{IsTree, StandsBefore}
use Rattle.sched_model.specs.Series.{TieredOptions, are_tiered}
use Rattle.sched_model.specs.SizeTiered.{tiered_proposals, tiered_validate}
use Rattle.sched_laws.specs.Proposals.{HasFreeId, MayBeThere}
use Rattle.sched_laws.specs.Stores.{StoreStands, store_view}
use Rattle.sched_laws.specs.Views.{ViewStands}
use Rattle.sched_laws.proofs.Flushes.{AreOwn, IsOwn, stored_are_own, tree_named_once}
use Rattle.sched_laws.proofs.Gate.{AllFit, apart_from_all, passes_beside, proposals_fit}
use Rattle.sched_laws.proofs.Lists.{all_join, all_weaken}

-- ---- jobs

-- The sources of a job that holds nodes stand.
abbrev Stands : Trees → Job → Type 0
Stands trees job = IsTrue (reserves_nodes job) → SourcesStand trees job

job_stands : (store : Store) (job : Job) → OpenedStands store job → (IsTrue (has_status Compacted job) → SourcesStand store.manifest.trees job) → Stands store.manifest.trees job
job_stands store job opened compacted = by (has_status Scheduled job || has_status Running job) opened.0
  where
    by : (b : Bool) → (IsTrue b → SourcesStand store.manifest.trees job) → IsTrue (b || has_status Compacted job) → SourcesStand store.manifest.trees job
    by true stands reserves = stands reserves
    by false stands reserves = compacted reserves

active_stand : (trees : Trees) (jobs : Jobs) → AllByRecursion (Stands trees) jobs → AllByRecursion (Stands trees) (filter is_active jobs)
active_stand trees [] stand = tt
active_stand trees (job ∷ jobs) stand = by (is_active job) (active_stand trees jobs stand.1)
  where
    by : (b : Bool) → AllByRecursion (Stands trees) (filter is_active jobs) → AllByRecursion (Stands trees) (cond b (job ∷ filter is_active jobs) (filter is_active jobs))
    by true later = (stand.0, later)
    by false later = later

-- ---- trees

all_named_once : (store : Store) → ((s : Segment) → IsTree store.tables s → AllByRecursion IsOwn s.tree → AllByRecursion (λ node. WerePut store node.flushes) s.tree → are_distinct (names s.tree) ≡ true)
    → (trees : Trees) → AllByRecursion (IsTree store.tables) trees → AreOwn trees → AllByRecursion (λ s. AllByRecursion (λ node. WerePut store node.flushes) s.tree) trees
    → AllByRecursion (λ s. IsTrue (are_distinct (names s.tree))) trees
all_named_once store once [] each own put = tt
all_named_once store once (s ∷ trees) each own put = (once s each.0 own.0 put.0, all_named_once store once trees each.1 own.1 put.1)

-- The sources of each stored job that holds nodes stand.
pub stored_stand : (merge : Operator) (store : Store) (records : Records) → StoreStands merge store records → AllByRecursion (λ job. IsTrue (reserves_nodes job) → SourcesStand store.manifest.trees job) records.jobs
stored_stand merge store records stands =
    let opened : AllByRecursion (OpenedStands store) records.jobs = subst (λ stored. AllByRecursion (OpenedStands store) (jobs_in stored)) stands.stored stands.invariant.sources in
    all_join (OpenedStands store) (λ job. IsTrue (has_status Compacted job) → SourcesStand store.manifest.trees job) (Stands store.manifest.trees) (λ job opened compacted. job_stands store job opened compacted) records.jobs opened stands.compacted

-- ---- the laws

-- The view of a store that stands has ordered trees that share no node, and its jobs' sources stand in them.
pub views_stand : (merge : Operator) (store : Store) (records : Records) → StoreStands merge store records → ViewStands (store_view store records)
views_stand merge store records stands =
    let trees = store.manifest.trees in
    record {
      prefixes = stands.invariant.sound.prefixes;
      in_order = all_weaken (IsTree store.tables) (λ s. Pairs StandsBefore (names s.tree)) (λ s tree. tree.names_in_order) trees stands.invariant.trees.each;
      named_once = all_named_once store (λ s tree own put. tree_named_once store stands.invariant.sound.tables s.tree tree.names_in_order tree.newest_first own put)
          trees stands.invariant.trees.each (stored_are_own store stands.invariant.replay) stands.invariant.tables.flushes;
      apart = stands.invariant.trees.apart;
      jobs = active_stand trees records.jobs (stored_stand merge store records stands);
    }

pub stores_accept : (merge : Operator) (store : Store) (records : Records) → StoreStands merge store records
    → (o : TieredOptions) → are_tiered o ≡ true → (most : ℕ)
    → (before after : List JobSpec) (job : Job) → tiered_proposals o most (store_view store records) ≡ before ++ job.spec ∷ after → HasFreeId job.spec
    → (jobs : Jobs) → AllByRecursion (MayBeThere records.jobs (before ++ after) job.id) jobs
    → (later : View) → later.manifest.trees ≡ store.manifest.trees → submit_gate later.manifest.trees jobs [] (tiered_validate later) job ≡ None
stores_accept merge store records stands o tiered most before after job is small jobs there later trees =
    let view = store_view store records in
    let fit = subst (AllFit view) is (proposals_fit o tiered most view (views_stand merge store records stands)) in
    passes_beside view before after job fit small records.jobs (apart_from_all job.spec records.jobs) jobs there later trees
