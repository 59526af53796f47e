-- What a store in memory shows while it is lent together with an operator.
use Rattle.std.specs.Prelude.{ℕ, true, []}
use Rattle.row_model.specs.Fold.{Operator}
use Rattle.step_model.specs.Rivals.{Caller}
use Rattle.step_model.specs.Views.{StoreView}
use Rattle.fleet_history.specs.Parties.{party_of}
use Rattle.fleet_store.specs.Memory.{StoreParts}
use Rattle.fleet_store.specs.declared.under.Under.{Under}

-- The store that is lent.
abbrev pub store_of : {O : Type 0} → Under O → StoreParts
store_of u = u.store.now

-- The name of the reference to it.
abbrev pub lent_of : {O : Type 0} → Under O → ℕ
lent_of u = u.store.ghost_name

-- The operator that is lent with it.
abbrev pub operator_of : {O : Type 0} → Under O → O
operator_of u = u.operator.now

-- Who calls a store in memory: nobody else does.
abbrev pub caller_of : Operator → StoreParts → Caller
caller_of merge store = record { merge = merge; line = store.line; party = party_of store.party; alone = true }

-- What a caller sees of a store in memory. There is one such store in one place.
abbrev pub view_of : Operator → (lent : ℕ) → StoreParts → StoreView
view_of merge lent store = record {
  who = caller_of merge store;
  world = store.world;
  faults = store.faults;
  waits = store.waits;
  processed = store.processed;
  lent = lent;
  place = [];
}
