-- When parties of the tests may make a step over a store.
use Rattle.std.specs.Prelude.{◌≡◌, ℕ, false}
use Rattle.row_model.specs.Append.{append}
use Rattle.row_model.specs.Fold.{Operator}
use Rattle.fleet_model.specs.History.{Worker}
use Rattle.step_model.specs.Fits.{WorkerHolds}
use Rattle.step_model.specs.Kept.Keeps.{Keeps}
use Rattle.step_model.specs.Past.{World}
use Rattle.step_model.specs.Views.{SameCaller, StoreView}
use Rattle.fleet_worker.specs.Workers.{AreNoted, WorkerParts, live_of}

-- The store meets the invariant, and the worker fits it, unless it is stopped.
pub record IsStaffed (merge : Operator) (world : World) (w : WorkerParts) : Type 0 where
  pub keeps : Keeps merge world
  pub holds : w.stopped ≡ false → WorkerHolds merge world (live_of w)
  pub noted : w.stopped ≡ false → AreNoted w.attempts world.store

-- The worker runs nothing, so it fits each store that meets the invariant.
abbrev pub IsIdle : WorkerParts → Type 0
IsIdle w = (merge : Operator) (world : World) → Keeps merge world → IsStaffed merge world w

-- The worker calls the store.
pub record IsHand (view : StoreView) (w : WorkerParts) : Type 0 where
  pub party : view.who.party ≡ Worker w.number
  pub staffed : IsStaffed view.who.merge view.world w

-- After a step of the worker the same worker calls the same store on.
pub record GoesOn (old new : StoreView) (w next : WorkerParts) : Type 0 where
  pub same : SameCaller old new
  pub number : next.number ≡ w.number
  pub hand : IsHand new next

-- The worker with this number calls a store that meets the invariant and folds by appending.
pub record MayHire (view : StoreView) (number : ℕ) : Type 0 where
  pub party : view.who.party ≡ Worker number
  pub keeps : Keeps view.who.merge view.world
  pub folds : view.who.merge ≡ append
