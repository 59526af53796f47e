-- What a fleet keeps between two lines of a script.
use Rattle.std.specs.Prelude.{◌≡◌, ◌≢◌, ℕ, ◌==◌, ◌&&◌, Bool, false, List, None}
use Rattle.std.specs.List.{AllByRecursion, list_any}
use Rattle.row_model.specs.Lists.{Pairs}
use Rattle.row_model.specs.Fold.{Operator}
use Rattle.fleet_model.specs.Jobs.{Job, Compacted, has_status}
use Rattle.fleet_model.specs.Past.Finished.{is_finished_by}
use Rattle.fleet_model.specs.Store.{Manifest, Store, stored_jobs}
use Rattle.fleet_model.specs.Work.Parties.{Parties, LiveWorker, LiveCoordinator}
use Rattle.step_model.specs.Past.{World}
use Rattle.step_model.specs.Entries.{is_pending}
use Rattle.step_model.specs.Kept.Keeps.{Keeps}
use Rattle.step_model.specs.Fits.{WorkerHolds, CoordinatorHolds}
use Rattle.script_model.specs.States.{State}
use Rattle.line_laws.specs.Undrained.{FlushesCount}
use Rattle.line_laws.specs.Counts.{JobsCount}

-- The job has this id, and waits for its commit.
abbrev pub awaits_commit : ℕ → Job → Bool
awaits_commit id job = (id == job.id) && has_status Compacted job

-- The finished jobs of the history are exactly those that are stored as Compacted.
abbrev pub FinishedAreStored : Store → Type 0
FinishedAreStored store = (id : ℕ) → is_finished_by store.history id ≡ list_any (awaits_commit id) (stored_jobs store)

-- The store keeps what lawful calls keep. Each live party fits it, and no two parties of a kind have
-- the same number. A coordinator holds no local state between lines, since a poll in a script takes the
-- objects that it gets. No flush is about to bring a table to a tree. The finished jobs of the history are
-- those that wait for their commit, the flushes that the trees name are those that the history counts, and no job was
-- finished or committed twice.
pub record FleetKeeps (merge : Operator) (world : World) (parties : Parties) : Type 0 where
  pub store : Keeps merge world
  pub workers : AllByRecursion (WorkerHolds merge world) parties.workers
  pub coordinators : AllByRecursion (λ c. CoordinatorHolds world c None) parties.coordinators
  pub workers_differ : Pairs (λ (v w : LiveWorker). v.number ≢ w.number) parties.workers
  pub coordinators_differ : Pairs (λ (c d : LiveCoordinator). c.number ≢ d.number) parties.coordinators
  pub none_pending : (table : ℕ) → is_pending world.store.history table ≡ false
  pub finished : FinishedAreStored world.store
  pub flushes : FlushesCount world
  pub counts : JobsCount world.store

-- The state keeps all of it with some past. The state itself has no past, because a history keeps no
-- manifests.
pub record StateKeeps (merge : Operator) (s : State) : Type 0 where
  pub past : List Manifest
  pub fleet : FleetKeeps merge (record { store = s.store; past = past }) s.parties
