-- The laws on fits: a lawful call of another party keeps what a worker and a coordinator hold.
use Rattle.std.specs.Prelude.{◌≡◌, ◌≢◌, ℕ, false, Option, ⊤}
use Rattle.row_model.specs.Fold.{Operator}
use Rattle.fleet_model.specs.Jobs.{contains}
use Rattle.fleet_model.specs.History.{Party, Coordinator, Worker}
use Rattle.fleet_model.specs.Work.Parties.{LiveWorker, LiveCoordinator}
use Rattle.fleet_model.specs.Sweeps.{worker_tables}
use Rattle.fleet_model.specs.Exchanges.{Exchange, DeletesTable}
use Rattle.step_model.specs.Past.{World}
use Rattle.step_model.specs.Steps.Merging.{Local}
use Rattle.step_model.specs.Lawful.{Lawful}
use Rattle.step_model.specs.Rivals.{Caller, Rivals, Strike, MayStrike, after_call}
use Rattle.step_model.specs.Kept.Keeps.{Keeps}
use Rattle.step_model.specs.Fits.{WorkerHolds, CoordinatorHolds}
use Rattle.step_laws.specs.Runs.{CallsKeep}

-- ---- a worker

-- The call deletes no table that the worker holds for an attempt.
abbrev pub SparesTables : LiveWorker → Exchange → Type 0
SparesTables w (DeletesTable table) = contains (worker_tables w) table ≡ false
SparesTables w _ = ⊤

-- A lawful call of another party keeps what the worker holds, whether a fault strikes the call or
-- not, if the call deletes no table that the worker holds for an attempt.
abbrev pub CallKeepsWorker : Operator → Exchange → Type 0
CallKeepsWorker merge x = (line : ℕ) (party : Party) (strike : Strike) (world : World) (w : LiveWorker)
    → Keeps merge world → party ≢ Worker w.number → Lawful merge party world x
    → MayStrike x world strike → SparesTables w x
    → WorkerHolds merge world w → WorkerHolds merge (after_call line party x strike world) w

-- Every lawful call of another party keeps what a worker holds.
abbrev pub WorkersKeep : Operator → Type 0
WorkersKeep merge = (x : Exchange) → CallKeepsWorker merge x

-- Calls of others that come between two calls of a worker keep what the worker holds, if each lawful
-- call keeps the invariant.
abbrev pub RivalsKeepWorkers : Type 0
RivalsKeepWorkers = (who : Caller) (old new : World) (w : LiveWorker) → CallsKeep who.merge
    → who.party ≡ Worker w.number → Keeps who.merge old → Rivals who old new
    → WorkerHolds who.merge old w → WorkerHolds who.merge new w

-- ---- a coordinator

-- A lawful call of another party keeps what the coordinator holds, whether a fault strikes the call
-- or not.
abbrev pub CallKeepsCoordinator : Operator → Exchange → Type 0
CallKeepsCoordinator merge x = (line : ℕ) (party : Party) (strike : Strike) (world : World)
    (c : LiveCoordinator) (local : Option Local)
    → Keeps merge world → party ≢ Coordinator c.number → Lawful merge party world x
    → MayStrike x world strike
    → CoordinatorHolds world c local → CoordinatorHolds (after_call line party x strike world) c local

-- Every lawful call of another party keeps what a coordinator holds.
abbrev pub CoordinatorsKeep : Operator → Type 0
CoordinatorsKeep merge = (x : Exchange) → CallKeepsCoordinator merge x

-- Calls of others that come between two calls of a coordinator keep what the coordinator holds, if
-- each lawful call keeps the invariant.
abbrev pub RivalsKeepCoordinators : Type 0
RivalsKeepCoordinators = (who : Caller) (old new : World) (c : LiveCoordinator)
    (local : Option Local) → CallsKeep who.merge
    → who.party ≡ Coordinator c.number → Keeps who.merge old → Rivals who old new
    → CoordinatorHolds old c local → CoordinatorHolds new c local
