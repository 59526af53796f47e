-- Calls lead to later stores.
use Rattle.std.specs.Prelude.{◌≡◌, ℕ, IsTrue}
use Rattle.fleet_model.specs.Nodes.{is_among, table_rows}
use Rattle.fleet_model.specs.History.{Party}
use Rattle.fleet_model.specs.Exchanges.{Exchange}
use Rattle.fleet_model.specs.Store.{Store}
use Rattle.step_model.specs.Past.{World}
use Rattle.step_model.specs.Rivals.{Caller, Rivals, Strike, store_after_call}
use Rattle.step_model.specs.Later.{IsLater}

-- The table is still there, with the same rows.
pub record TableStays (id : ℕ) (old new : Store) : Type 0 where
  pub there : IsTrue (is_among new.tables id)
  pub rows : table_rows new.tables id ≡ table_rows old.tables id

-- A call of anyone, struck or not, and any calls of others lead to a later store. What is later than a later store is
-- later. A table that was put stays in later stores.
pub record CallsLeadLater : Type 0 where
  pub itself : (store : Store) → IsLater store store
  pub on : (first second third : Store) → IsLater first second → IsLater second third → IsLater first third
  pub call : (line : ℕ) (party : Party) (x : Exchange) (strike : Strike) (store : Store)
      → IsLater store (store_after_call line party x strike store)
  pub rivals : (who : Caller) (old new : World) → Rivals who old new → IsLater old.store new.store
  pub tables : (id : ℕ) (old new : Store) → IsLater old new → IsTrue (is_among old.tables id) → TableStays id old new
