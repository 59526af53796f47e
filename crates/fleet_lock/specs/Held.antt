-- What the lock holds, as plain data.
use Rattle.std.specs.Prelude.{ℕ, List, [], ◌∷◌}
use Rattle.fleet_history.specs.declared.entry.HistoryEntry.{HistoryEntry}
use Rattle.fleet_history.specs.declared.party.Party.{Party}
use Rattle.fleet_store.specs.Memory.{StoreParts}

-- The store when it was shared, the store after each call since then, the settings of the operator, the entries of the
-- history, and the line and the party that entries would carry next.
pub record HeldValue : Type 0 where
  pub base : StoreParts
  pub trace : List StoreParts
  pub settings : List ℕ
  pub history : List HistoryEntry
  pub line : ℕ
  pub party : Party

-- The last of these states. The first one is given by itself.
abbrev pub last_from : StoreParts → List StoreParts → StoreParts
last_from first [] = first
last_from first (state ∷ states) = last_from state states

-- The store after the last call.
abbrev pub store_of : HeldValue → StoreParts
store_of held = last_from held.base held.trace

-- The store that is held.
abbrev pub held_store : HeldValue → StoreParts
held_store held = record (store_of held) { history = held.history; line = held.line; party = held.party }
