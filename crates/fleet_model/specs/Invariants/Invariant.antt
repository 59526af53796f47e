-- The invariant that the store keeps from line to line, alone and together with the live workers.
use Rattle.std.specs.Prelude.{IsTrue}
use Rattle.std.specs.List.{AllByRecursion}
use Rattle.row_model.specs.Fold.{Operator}
use Rattle.fleet_model.specs.Jobs.{Job, has_status, Compacted, is_active}
use Rattle.fleet_model.specs.Work.Parties.{Parties}
use Rattle.fleet_model.specs.Handles.{job_tables}
use Rattle.fleet_model.specs.Store.{Store, stored_jobs, AreHeld, WerePut}
use Rattle.fleet_model.specs.Invariants.AttemptsFit.{JobContext, WorkerFits}
use Rattle.fleet_model.specs.Invariants.TreesFit.{AreTrees, IsSound}
use Rattle.fleet_model.specs.Invariants.JobsFit.{OutputsFit, NodesHeldOnce, OpenedStands}
use Rattle.fleet_model.specs.Invariants.ReadsFit.{TreeKeepsReads}
use Rattle.fleet_model.specs.Past.Replay.{IsReplayed}

-- The tables that a job names in its context and its outputs are held. The tables of its sources were put.
pub record JobTablesHeld (store : Store) (job : Job) : Type 0 where
  pub named : AreHeld store (job_tables job)
  pub sources : WerePut store job.source_tables

-- The tables that trees and active jobs name are held. The flushes that went into nodes were put, but their
-- tables may be deleted.
pub record TablesHeld (store : Store) : Type 0 where
  pub pieces : AllByRecursion (λ s. AllByRecursion (λ node. AreHeld store node.pieces) s.tree) store.manifest.trees
  pub flushes : AllByRecursion (λ s. AllByRecursion (λ node. WerePut store node.flushes) s.tree) store.manifest.trees
  pub jobs : AllByRecursion (λ job. IsTrue (is_active job) → JobTablesHeld store job) (stored_jobs store)

-- The invariant of a store, whichever parties are live. Its replay gives the specs of jobs, which are
-- needed to find the settings of attempts in the history.
pub record StoreInvariant (merge : Operator) (store : Store) : Type 0 where
  pub sound : IsSound store
  pub replay : IsReplayed store
  pub trees : AreTrees store
  pub held_once : NodesHeldOnce (stored_jobs store)
  pub sources : AllByRecursion (OpenedStands store) (stored_jobs store)
  pub contexts : AllByRecursion (JobContext merge store replay.specs) (stored_jobs store)
  pub outputs : AllByRecursion (λ job. IsTrue (has_status Compacted job) → OutputsFit merge store replay.specs job)
      (stored_jobs store)
  pub tables : TablesHeld store
  pub reads : AllByRecursion (λ s. TreeKeepsReads merge store s.tree) store.manifest.trees

-- The invariant of a store together with its live workers.
pub record FleetInvariant (merge : Operator) (store : Store) (parties : Parties) : Type 0 where
  pub stored : StoreInvariant merge store
  pub attempts : AllByRecursion (WorkerFits merge store stored.replay.specs) parties.workers
