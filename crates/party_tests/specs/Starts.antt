-- When coordinators of the tests may make a step over a store, also beside a worker.
use Rattle.std.specs.Prelude.{None}
use Rattle.row_model.specs.Append.{append}
use Rattle.step_model.specs.Fits.{CoordinatorHolds}
use Rattle.step_model.specs.Kept.Keeps.{Keeps}
use Rattle.step_model.specs.Past.{World}
use Rattle.step_model.specs.Views.{StoreView}
use Rattle.fleet_coordinator.specs.Handling.{CoordinatorParts}
use Rattle.fleet_coordinator.specs.Starts.{IsCoordinator}
use Rattle.fleet_worker.specs.Workers.{WorkerParts}
use Rattle.party_tests.specs.Callers.{IsHand}

-- A coordinator calls a store that meets the invariant.
pub record MayStart (view : StoreView) : Type 0 where
  pub by : IsCoordinator view
  pub keeps : Keeps view.who.merge view.world

-- A coordinator and a worker may each make a step over a store that it calls.
pub record MayAct (coordinator second : StoreView) (w : WorkerParts) : Type 0 where
  pub starts : MayStart coordinator
  pub works : IsHand second w

-- The coordinator 1 may poll over a store with this world, which folds by appending.
pub record MayLead (world : World) (c : CoordinatorParts) : Type 0 where
  pub keeps : Keeps append world
  pub holds : CoordinatorHolds world (record { number = 1; epoch = c.epoch }) None
