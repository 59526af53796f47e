-- The calls of a shared store, one after the other.
use Rattle.std.specs.Prelude.{◌≡◌, false, List, [], ◌∷◌}
use Rattle.row_model.specs.Fold.{Operator}
use Rattle.fleet_model.specs.Exchanges.{Exchange, event_of, records_version}
use Rattle.step_model.specs.Kept.Keeps.{Keeps}
use Rattle.step_model.specs.Lawful.{Lawful}
use Rattle.step_model.specs.Rivals.{after_call, is_deletion}
use Rattle.fleet_history.specs.Parties.{party_of}
use Rattle.fleet_store.specs.Memory.{StoreParts}
use Rattle.fleet_store.specs.Strikes.{strike_by, waits_after, faults_after}
use Rattle.fleet_lock.specs.Held.{HeldValue, held_store}

-- A lawful call leads from the old to the new. It deletes no table, and the fault that waited strikes it exactly if it
-- is its turn. The new state has the line and the party of the call.
pub record CallLeads (merge : Operator) (old new : StoreParts) : Type 0 where
  pub exchange : Exchange
  pub lawful : Lawful merge (party_of new.party) old.world exchange
  pub deletes_none : is_deletion exchange ≡ false
  pub leaves : new.world
      ≡ after_call new.line (party_of new.party) exchange
      (strike_by (event_of exchange old.world.store) old.waits) old.world
  pub waits : new.waits ≡ waits_after (event_of exchange old.world.store) old.waits
  pub faults : new.faults ≡ faults_after (strike_by (event_of exchange old.world.store) old.waits) old.faults
  pub whole : records_version old.world.store.records ≡ records_version new.world.store.records
      → new.processed ≡ old.processed

-- Lawful calls lead from the first state through these.
abbrev pub CallsLead : Operator → StoreParts → List StoreParts → Type 0
CallsLead merge first [] = Unit {0}
CallsLead merge first (state ∷ states) = CallLeads merge first state × CallsLead merge state states

-- The value is that of a store that meets the invariant and the facts that lawful calls keep. Lawful calls lead to it
-- from the store that was shared.
pub record IsHeld (merge : Operator) (store : StoreParts) (h : HeldValue) : Type 0 where
  pub same : store ≡ held_store h
  pub keeps : Keeps merge store.world
  pub steps : CallsLead merge h.base h.trace
