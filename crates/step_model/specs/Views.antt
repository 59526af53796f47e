-- What a caller sees of a store, as one value.
use Rattle.std.specs.Prelude.{◌≡◌, ℕ, List, Option}
use Rattle.fleet_model.specs.Exchanges.{Fault}
use Rattle.step_model.specs.Past.{World}
use Rattle.step_model.specs.Rivals.{Caller}

-- What a caller sees of a store: who calls, the store with its past, how many faults struck calls of this caller,
-- and the fault that waits, if one does. `processed` are the bytes that the stored records say each job has
-- processed, in the order of the jobs; no law speaks of them. `lent` is the name of a reference inside, if there
-- is one. `place` is a list of numbers by which an implementation tells which store it is, and whatever else must
-- outlast a call.
pub record StoreView : Type 0 where
  pub who : Caller
  pub world : World
  pub faults : ℕ
  pub waits : Option Fault
  pub processed : List ℕ
  pub lent : ℕ
  pub place : List ℕ

-- Both are views of one caller at one store. No call changes what they share.
pub record SameCaller (old new : StoreView) : Type 0 where
  pub who : new.who ≡ old.who
  pub lent : new.lent ≡ old.lent
  pub place : new.place ≡ old.place
