-- The calls of others that come between two calls of one party.
use Rattle.std.specs.Prelude.{◌≡◌, ◌≢◌, ℕ, Bool, true, false, IsTrue, IfSome, List, [], ◌∷◌, Option, Some, None}
use Rattle.row_model.specs.Fold.{Operator}
use Rattle.fleet_model.specs.History.{Party, is_get_or_put}
use Rattle.fleet_model.specs.Store.{Store}
use Rattle.fleet_model.specs.Exchanges.{Exchange, DeletesTable, event_of, after_answered, struck_by}
use Rattle.step_model.specs.Past.{World, world_after}
use Rattle.step_model.specs.Lawful.{Lawful}

-- ---- one call

-- The fault that strikes a call, if one does. The flag is true if the fault lets puts stand.
abbrev pub Strike : Type 0
Strike = Option Bool

-- The store after a call.
abbrev pub store_after_call : (line : ℕ) (party : Party) (x : Exchange) (strike : Strike) (store : Store) → Store
store_after_call line party x None store = after_answered line party x store
store_after_call line party x (Some stands) store = struck_by stands line party x store

-- The world after a call.
abbrev pub after_call : (line : ℕ) (party : Party) (x : Exchange) (strike : Strike) (world : World) → World
after_call line party x strike world = world_after world (store_after_call line party x strike world.store)

-- Only a get or a put may be struck.
abbrev pub MayStrike : Exchange → World → Strike → Type 0
MayStrike x world strike = IfSome strike (λ stands. IsTrue (is_get_or_put (event_of x world.store)))

-- ---- calls of others

-- Who calls the store: the operator under which its rows are merged, the line and the party that the
-- entries carry, and whether no other party calls it.
pub record Caller : Type 0 where
  pub merge : Operator
  pub line : ℕ
  pub party : Party
  pub alone : Bool

-- A call of another party, with its line and the fault that strikes it, if one does.
pub record RivalCall : Type 0 where
  pub line : ℕ
  pub party : Party
  pub exchange : Exchange
  pub strike : Strike

-- True if the call deletes a table.
abbrev pub is_deletion : Exchange → Bool
is_deletion (DeletesTable table) = true
is_deletion _ = false

-- Another party may make this call: it is lawful and deletes nothing.
pub record IsRival (who : Caller) (world : World) (call : RivalCall) : Type 0 where
  pub other : call.party ≢ who.party
  pub lawful : Lawful who.merge call.party world call.exchange
  pub strike : MayStrike call.exchange world call.strike
  pub deletes_none : is_deletion call.exchange ≡ false

-- The world after the call of another party.
abbrev pub after_rival : RivalCall → World → World
after_rival call world = after_call call.line call.party call.exchange call.strike world

-- These calls of others, made in order, lead from the old to the new.
abbrev pub RivalsFrom : Caller → List RivalCall → (old new : World) → Type 0
RivalsFrom who [] old new = old ≡ new
RivalsFrom who (call ∷ calls) old new = IsRival who old call × RivalsFrom who calls (after_rival call old) new

-- Calls of others lead from the old to the new. There are none if no other party calls the store.
pub record Rivals (who : Caller) (old new : World) : Type 0 where
  pub calls : List RivalCall
  pub lead : RivalsFrom who calls old new
  pub none : who.alone ≡ true → calls ≡ []
