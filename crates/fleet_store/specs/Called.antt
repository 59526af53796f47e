-- How a call of a store ends, by what its caller sees before and after.
use Rattle.std.specs.Prelude.{◌≡◌, ◌≢◌, ℕ, ◌+◌, ◌<◌, ◌≤◌, Bool, true, IsTrue, Some, None, Result, Ok, Err}
use Rattle.fleet_model.specs.History.{is_get_or_put}
use Rattle.fleet_model.specs.Exchanges.{Exchange, event_of, records_version}
use Rattle.fleet_model.specs.Store.{Store}
use Rattle.step_model.specs.Past.{World}
use Rattle.step_model.specs.Rivals.{Rivals, after_call}
use Rattle.step_model.specs.Views.{StoreView, SameCaller}
use Rattle.step_model.specs.Courses.CourseRuns.{HasRoom}
use Rattle.step_model.specs.Courses.Ran.{Spares, Strikes}
use Rattle.fleet_rows.specs.declared.errors.SlateDBError.{SlateDBError}
use Rattle.fleet_rows.specs.declared.errors.SlateDBError.TheVariants.{StoreFault, Conflict, Memory}

-- The call was made of the store that it met, and no fault struck it. The history had room for it.
pub record IsMade (x : Exchange) (met : World) (old new : StoreView) : Type 0 where
  pub room : HasRoom met x
  pub leaves : new.world ≡ after_call old.who.line old.who.party x None met
  pub spares : old.who.alone ≡ true → Spares (event_of x met.store) old.waits new.waits
  pub no_fault : old.who.alone ≡ true → new.faults ≡ old.faults

-- A fault struck the call, which is a get or a put. If nobody else calls, it is the fault that waited.
pub record IsStruck (x : Exchange) (met : World) (old new : StoreView) : Type 0 where
  pub counts : IsTrue (is_get_or_put (event_of x met.store))
  pub stands : Bool
  pub leaves : new.world ≡ after_call old.who.line old.who.party x (Some stands) met
  pub strikes : old.who.alone ≡ true → Strikes (event_of x met.store) old.waits new.waits stands
  pub fault : old.faults < new.faults
  pub one_fault : old.who.alone ≡ true → new.faults ≡ old.faults + 1

-- The call was not made, since memory ran out.
pub record IsNotMade (met : World) (old new : StoreView) : Type 0 where
  pub leaves : new.world ≡ met
  pub waits_on : old.who.alone ≡ true → new.waits ≡ old.waits
  pub no_fault : old.who.alone ≡ true → new.faults ≡ old.faults

-- The end of a call that met this store. There is no other error.
module _ {A : Type 0} (x : Exchange) (met : World) (old new : StoreView) (Gives : A → Type 0)
    (Refuses : ℕ → Type 0) where
  abbrev pub Ended : Result A SlateDBError → Type 0
  Ended (Ok answer) = Gives answer × IsMade x met old new
  Ended (Err StoreFault) = IsStruck x met old new
  Ended (Err (Conflict seen)) = Refuses seen × IsMade x met old new
  Ended (Err Memory) = IsNotMade met old new
  Ended (Err _) = ⊥

-- A call of the store. Calls of others may come before it, and the store that it meets decides on its answer. Records
-- that keep their version stay whole.
pub record Called {A : Type 0} (old new : StoreView) (x : Store → Exchange) (Gives : Store → A → Type 0)
    (Refuses : Store → ℕ → Type 0) (result : Result A SlateDBError) : Type 0 where
  pub same : SameCaller old new
  pub rise : old.faults ≤ new.faults
  pub whole : records_version old.world.store.records ≡ records_version new.world.store.records
      → new.processed ≡ old.processed
  pub met : World
  pub rivals : Rivals old.who old.world met
  pub ended : Ended (x met.store) met old new (Gives met.store) (Refuses met.store) result

-- No call of this kind is refused.
abbrev pub Never : Store → ℕ → Type 0
Never store seen = ⊥

-- A put is done if its version is the stored one, and answers the next version.
abbrev pub PutsNext : (version : ℕ) → (stored : ℕ) → (next : ℕ) → Type 0
PutsNext version stored next = (version ≡ stored) × (next ≡ version + 1)

-- A put is refused if its version is not the stored one, which is shown.
abbrev pub ShowsStored : (version : ℕ) → (stored : ℕ) → (seen : ℕ) → Type 0
ShowsStored version stored seen = (version ≢ stored) × (seen ≡ stored)
