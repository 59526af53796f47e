-- What every lawful call keeps.
use Rattle.row_model.specs.Fold.{Operator}
use Rattle.fleet_model.specs.Invariants.Invariant.{StoreInvariant}
use Rattle.step_model.specs.Past.{World}
use Rattle.step_model.specs.Kept.Faithful.{Faithful}
use Rattle.step_model.specs.Kept.Facts.{StoreFacts}

-- The stored objects meet their invariant. The specs of its replay are faithful to the past. And the
-- facts hold that lawful calls need in order to keep the invariant.
pub record Keeps (merge : Operator) (world : World) : Type 0 where
  pub stored : StoreInvariant merge world.store
  pub faithful : Faithful world stored.replay.specs
  pub facts : StoreFacts world
