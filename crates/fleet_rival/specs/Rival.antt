-- What a store shows that another party calls too.
use Rattle.std.specs.Prelude.{◌≡◌, ℕ, []}
use Rattle.row_model.specs.Append.{append}
use Rattle.fleet_model.specs.Exchanges.{records_version}
use Rattle.step_model.specs.Views.{StoreView}
use Rattle.fleet_history.specs.declared.party.Party.{Party}
use Rattle.fleet_store.specs.Memory.{StoreParts}
use Rattle.fleet_store.specs.Under as under
use Rattle.fleet_rival.specs.Callers.{shared_caller}
use Rattle.fleet_rival.specs.declared.rival.Rival.{Rival}

-- The store in memory.
abbrev pub store_of : Rival → StoreParts
store_of r = under.store_of r.under

-- The name of the reference to it.
abbrev pub lent_of : Rival → ℕ
lent_of r = under.lent_of r.under

-- What the party with this line sees of a store in memory that another party calls too.
abbrev pub shared_view : (line : ℕ) → Party → (lent : ℕ) → StoreParts → StoreView
shared_view line party lent store = record {
  who = shared_caller append line party;
  world = store.world;
  faults = store.faults;
  waits = store.waits;
  processed = store.processed;
  lent = lent;
  place = [];
}

-- What the caller sees.
abbrev pub view_of : Rival → StoreView
view_of r = shared_view r.line r.party (lent_of r) (store_of r)

-- Records that keep their version stay whole.
abbrev pub StayWhole : (old new : StoreParts) → Type 0
StayWhole old new = records_version old.world.store.records ≡ records_version new.world.store.records
    → new.processed ≡ old.processed
