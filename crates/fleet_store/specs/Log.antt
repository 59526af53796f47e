-- What a store in memory keeps of its calls.
use Rattle.std.specs.Prelude.{◌≡◌, ℕ, ◌+◌, ◌<◌, ◌≤◌, ◌^◌, Bool, List, length, Option}
use Rattle.fleet_model.specs.Exchanges.{Fault}
use Rattle.fleet_model.specs.Exchanges as model
use Rattle.step_model.specs.Past.{World}
use Rattle.step_model.specs.Rivals.{Strike, after_call}
use Rattle.fleet_history.specs.Entries.{event_of, answer_of, history_of}
use Rattle.fleet_history.specs.Parties.{party_of}
use Rattle.fleet_history.specs.declared.answer.Answer.{Answer}
use Rattle.fleet_history.specs.declared.entry.HistoryEntry.{HistoryEntry}
use Rattle.fleet_history.specs.declared.event.Event.{Event}
use Rattle.fleet_history.specs.declared.party.Party.{Party}
use Rattle.fleet_store.specs.Calls.{exchange_of}
use Rattle.fleet_store.specs.Strikes.{strike_by, waits_after, faults_after}
use Rattle.fleet_store.specs.declared.call.Made.{Made}

-- What a `Log` shows: the world of the store, its history, the line and the party of later entries, how many
-- faults struck calls, and the fault that waits, if one does.
pub record LogParts : Type 0 where
  pub world : World
  pub history : List HistoryEntry
  pub line : ℕ
  pub party : Party
  pub faults : ℕ
  pub waits : Option Fault

-- The model's fault that strikes the call with this number from now on.
abbrev pub fault_of : ℕ × Bool → Fault
fault_of waits = record { k = waits.0; stands = waits.1 }

-- The history is that of the world, and bounds the number of faults.
pub record IsLog (world : World) (history : List HistoryEntry) (faults : ℕ) : Type 0 where
  pub same : history_of history ≡ world.store.history
  pub few : faults ≤ length history
  pub short : length history ≤ 2 ^ 62

-- The event and the answer are those of the model for this call.
pub record IsCall (made : Made) (event : Event) (answer : Answer) (world : World) : Type 0 where
  pub event_is : event_of event ≡ model.event_of (exchange_of made world.store) world.store
  pub answer_is : answer_of answer ≡ model.answer_of (exchange_of made world.store) world.store

-- The call was added, and this fault struck it, if one did.
pub record Adds (x : model.Exchange) (old new : LogParts) (strike : Strike) : Type 0 where
  pub strike_is : strike ≡ strike_by (model.event_of x old.world.store) old.waits
  pub world_is : new.world ≡ after_call old.line (party_of old.party) x strike old.world
  pub line_is : new.line ≡ old.line
  pub party_is : new.party ≡ old.party
  pub faults_are : new.faults ≡ faults_after strike old.faults
  pub waits_is : new.waits ≡ waits_after (model.event_of x old.world.store) old.waits
  pub longer : length new.history ≡ length old.history + 1
  pub room : length old.history < 2 ^ 62
