-- What a call of the held store does, and what its pass knows of it.
use Rattle.std.specs.Prelude.{◌≡◌, ℕ, ◌+◌, Bool, true, false, List, [], ◌∷◌, ◌++◌, length, Result, Err}
use Rattle.row_model.specs.Fold.{Operator}
use Rattle.step_model.specs.Kept.Keeps.{Keeps}
use Rattle.step_model.specs.Views.{StoreView}
use Rattle.fleet_history.specs.Parties.{party_of}
use Rattle.fleet_history.specs.declared.party.Party.{Party}
use Rattle.fleet_rows.specs.declared.errors.SlateDBError.{SlateDBError}
use Rattle.fleet_rows.specs.declared.errors.SlateDBError.TheVariants.{Memory, StoreFault}
use Rattle.fleet_store.specs.Memory.{StoreParts}
use Rattle.fleet_lock.specs.Held.{HeldValue, held_store, last_from, store_of}
use Rattle.fleet_lock.specs.Counts.{claims_of, commits_of, length_of}
use Rattle.fleet_lock.specs.Passes.{PassValue}
use Rattle.fleet_lock.specs.Rule.{IsFoundBy}
use Rattle.fleet_lock.specs.Steps.{CallLeads, CallsLead}
use Rattle.fleet_lock.specs.declared.sight.Sight.{Sight}

-- False if the call was not made, since memory ran out.
abbrev pub is_made : {A : Type 0} → Result A SlateDBError → Bool
is_made (Err Memory) = false
is_made _ = true

-- 1 if a fault struck the call, and otherwise 0.
abbrev pub struck_by : {A : Type 0} → Result A SlateDBError → ℕ
struck_by (Err StoreFault) = 1
struck_by _ = 0

-- A lawful call leads from the old value to this state, with the line and the party of the call.
pub record GrowsBy (merge : Operator) (line : ℕ) (party : Party) (old new : HeldValue) (state : StoreParts)
    : Type 0 where
  pub trace : new.trace ≡ old.trace ++ state ∷ []
  pub line_is : state.line ≡ line
  pub party_is : party_of state.party ≡ party_of party
  pub step : CallLeads merge (store_of old) state

-- The value has one state more, which a lawful call of this party left, or is as it was if the call was not made.
pub record Grows (merge : Operator) (line : ℕ) (party : Party) (made : Bool) (old new : HeldValue) : Type 0 where
  pub base : new.base ≡ old.base
  pub settings : new.settings ≡ old.settings
  pub same : made ≡ false → new.trace ≡ old.trace
  pub one : made ≡ true → (state : StoreParts) × GrowsBy merge line party old new state

-- What a caller with this line and this party sees of a store that nobody else calls meanwhile.
abbrev pub lone_view : Operator → (line : ℕ) → Party → (lent : ℕ) → StoreParts → StoreView
lone_view merge line party lent store = record {
  who = record { merge = merge; line = line; party = party_of party; alone = true };
  world = store.world;
  faults = store.faults;
  waits = store.waits;
  processed = store.processed;
  lent = lent;
  place = [];
}

-- What a call asks and answers, as this caller sees the store before and after it.
abbrev pub Alone : Operator → (line : ℕ) → Party → (StoreView → StoreView → Type 0) → (old new : HeldValue)
    → Type 0
Alone merge line party Asks old new =
    (lent : ℕ)
    × Asks (lone_view merge line party lent (store_of old)) (lone_view merge line party lent (store_of new))

-- The call may be made by this caller.
abbrev pub MayAlone : (merge : Operator) → (line : ℕ) → (party : Party) (Fits : StoreView → Type 0) (old : HeldValue)
    → Type 0
MayAlone merge line party Fits old = (lent : ℕ) → Fits (lone_view merge line party lent (store_of old))

-- The value that a view finds: what came since the view looked last is lawful calls of others, and the store meets
-- the invariant and the facts that lawful calls keep.
pub record Finds (folds : List ℕ → Operator) (v : Sight) (h : HeldValue) : Type 0 where
  pub found : IsFoundBy v h
  pub steps : CallsLead (folds h.settings) h.base h.trace
  pub keeps : Keeps (folds h.settings) (store_of h).world

-- The place in the history of a call that these calls come before.
abbrev pub place_after : StoreParts → List StoreParts → ℕ
place_after base before = length_of base + length before

-- The call comes after these calls, and is the last that its pass has then seen. It is a lawful call by the line and
-- the party of the pass, a fault is counted exactly if one struck it, its place is added to the pass's own, and its
-- claims and commits to the pass's shares.
pub record StandsAfter (merge : Operator) (old new : PassValue) (before : List StoreParts) (struck : ℕ)
    (state : StoreParts) : Type 0 where
  pub seen : new.sight.trace ≡ before ++ state ∷ []
  pub line : state.line ≡ old.line
  pub party : party_of state.party ≡ party_of old.party
  pub step : CallLeads merge (last_from old.sight.base before) state
  pub fault : state.faults ≡ (last_from old.sight.base before).faults + struck
  pub place : length_of state ≡ place_after old.sight.base before + 1
  pub own : new.sight.own ≡ old.sight.own ++ place_after old.sight.base before ∷ []
  pub claims : new.sight.claims + claims_of (last_from old.sight.base before) ≡ old.sight.claims + claims_of state
  pub commits : new.sight.commits + commits_of (last_from old.sight.base before)
      ≡ old.sight.commits + commits_of state

-- A call that was not made stands nowhere. Its pass has seen these calls, and has the places and shares that it had.
pub record StandsNowhere (old new : PassValue) (before : List StoreParts) : Type 0 where
  pub seen : new.sight.trace ≡ before
  pub own : new.sight.own ≡ old.sight.own
  pub claims : new.sight.claims ≡ old.sight.claims
  pub commits : new.sight.commits ≡ old.sight.commits

-- A call through a pass stands in the history at one place, after all that the pass had seen and calls of others,
-- unless it was not made. The pass counts the fault that struck it, if one did.
pub record CallStands {A : Type 0} (folds : List ℕ → Operator) (old new : PassValue) (result : Result A SlateDBError)
    : Type 0 where
  pub others : List StoreParts
  pub base : new.sight.base ≡ old.sight.base
  pub made : is_made result ≡ true → (state : StoreParts)
      × StandsAfter (folds old.sight.settings) old new (old.sight.trace ++ others) (struck_by result) state
  pub not_made : is_made result ≡ false → StandsNowhere old new (old.sight.trace ++ others)
  pub struck : new.sight.struck ≡ old.sight.struck + struck_by result

-- The store that a pass takes out when it closes.
pub record Closes (folds : List ℕ → Operator) (v : Sight) (store : StoreParts) : Type 0 where
  pub last : HeldValue
  pub finds : Finds folds v last
  pub same : store ≡ held_store last
  pub keeps : Keeps (folds last.settings) store.world
