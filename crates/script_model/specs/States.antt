-- The state of a fleet between two lines of a script.
use Rattle.std.specs.Prelude.{ℕ, Bool, [], Option, None}
use Rattle.row_model.specs.Fold.{Operator}
use Rattle.fleet_model.specs.Store.{Store, fresh_store}
use Rattle.fleet_model.specs.Work.Scheduler.{Scheduler}
use Rattle.fleet_model.specs.Work.Parties.{Parties}
use Rattle.fleet_model.specs.Exchanges.{Fault}

-- The options of a fleet.
pub record FleetOptions : Type 0 where
  pub timeout : ℕ  -- how long a Running job may go without a heartbeat, in milliseconds
  pub concurrent : ℕ  -- bounds the Running jobs and the proposals that a poll takes, together
  pub slots : ℕ  -- the most attempts that a worker runs
  pub ranges : ℕ  -- the most ranges of a job
  pub table_size : ℕ  -- a table ends with the row with which it exceeds this, in bytes
  pub moves : Bool  -- jobs whose tables lie apart are moved at once
  pub retention : ℕ  -- how long, in milliseconds, what was readable stays so below the floor too

-- What is given beside a script: the merge operator and the scheduler.
pub record Inputs : Type 0 where
  pub merge : Operator
  pub scheduler : Scheduler

-- The state of a fleet: its options, the moment, its store, the live parties, and the fault that
-- waits, if any.
pub record State : Type 0 where
  pub options : FleetOptions
  pub moment : ℕ  -- in milliseconds
  pub store : Store
  pub parties : Parties
  pub fault : Option Fault

-- The state of a fresh fleet: the moment is 0, the store is fresh, and no party is live.
abbrev pub fresh_state : FleetOptions → State
fresh_state options = record {
  options = options;
  moment = 0;
  store = fresh_store;
  parties = record { coordinators = []; workers = [] };
  fault = None;
}
