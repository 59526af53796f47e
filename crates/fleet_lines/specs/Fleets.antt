-- What a fleet shows, and the state of the model that it stands for.
use Rattle.std.specs.Prelude.{◌≡◌, ℕ, ◌<◌, ◌^◌, false, List, [], map}
use Rattle.std.specs.List.{AllByRecursion}
use Rattle.row_model.specs.Fold.{Operator}
use Rattle.fleet_model.specs.Store.{Store}
use Rattle.fleet_model.specs.Work.Parties.{LiveCoordinator, Parties}
use Rattle.step_model.specs.Entries.{last_name}
use Rattle.step_model.specs.Past.{fresh_world}
use Rattle.script_model.specs.States as model
use Rattle.script_model.specs.States.{State, fresh_state}
use Rattle.line_laws.specs.States.{FleetKeeps}
use Rattle.fleet_store.specs.Memory.{StoreParts}
use Rattle.fleet_worker.specs.Workers.{AreNoted, WorkerParts, live_of}
use Rattle.fleet_lines.specs.declared.options.FleetOptions.{FleetOptions}

-- What a fleet shows: its options, the moment, the greatest name that a flush has used, its store, and the parties
-- that are live, the last one that started or made a step first.
pub record FleetParts : Type 0 where
  pub options : FleetOptions
  pub moment : ℕ
  pub last_name : ℕ
  pub store : StoreParts
  pub coordinators : List LiveCoordinator
  pub workers : List WorkerParts

-- The model's options.
abbrev pub options_of : FleetOptions → model.FleetOptions
options_of o = record {
  timeout = o.compactor.worker_heartbeat_timeout_ms;
  concurrent = o.compactor.max_concurrent_compactions;
  slots = o.worker.max_concurrent_compactions;
  ranges = o.worker.max_subcompactions;
  table_size = o.worker.max_sst_size;
  moves = o.compactor.enable_trivial_move;
  retention = o.worker.retention_ms;
}

-- The model's live parties.
abbrev pub parties_of : FleetParts → Parties
parties_of fleet = record { coordinators = fleet.coordinators; workers = map live_of fleet.workers }

-- The model's state.
abbrev pub state_of : FleetParts → State
state_of fleet = record {
  options = options_of fleet.options;
  moment = fleet.moment;
  store = fleet.store.world.store;
  parties = parties_of fleet;
  fault = fleet.store.waits;
}

-- A live worker is not stopped, and the tables that it has noted are described as they were put.
pub record IsUp (store : Store) (w : WorkerParts) : Type 0 where
  pub runs : w.stopped ≡ false
  pub noted : AreNoted w.attempts store

-- The store meets the invariant, the live parties fit it, and each live worker is up. The options have room.
pub record Stands (merge : Operator) (fleet : FleetParts) : Type 0 where
  pub keeps : FleetKeeps merge fleet.store.world (parties_of fleet)
  pub up : AllByRecursion (IsUp fleet.store.world.store) fleet.workers
  pub few : fleet.options.worker.max_subcompactions < 2 ^ 32

-- The fleet may run a line: it stands, and it knows the greatest name that a flush has used.
pub record IsServing (merge : Operator) (fleet : FleetParts) : Type 0 where
  pub stands : Stands merge fleet
  pub named : fleet.last_name ≡ last_name fleet.store.world.store.history

-- The fleet ran no line yet: its state is the fresh one of its options, its store has no past, no party is live, and
-- the options have room.
pub record IsFresh (fleet : FleetParts) : Type 0 where
  pub state : state_of fleet ≡ fresh_state (options_of fleet.options)
  pub world : fleet.store.world ≡ fresh_world
  pub coordinators : fleet.coordinators ≡ []
  pub workers : fleet.workers ≡ []
  pub named : fleet.last_name ≡ 0
  pub few : fleet.options.worker.max_subcompactions < 2 ^ 32
