-- What a call leaves, part by part.
use Rattle.std.proofs.Common.{◌≡◌, refl, ℕ, ◌==◌, Bool, true, false, if◌then◌else◌, Some, None}
use Rattle.fleet_model.specs.History.{Party}
use Rattle.fleet_model.specs.Exchanges.{Exchange, Plain, DrawsJob, DrawsTable, PutsTable, PutsManifest, PutsRecords, ListsTables, DeletesTable, event_of, answer_of, with_entry, after_exchange, records_version}
use Rattle.fleet_model.specs.Store.{Store}
use Rattle.step_model.specs.Rivals.{Strike, store_after_call}
use Rattle.fleet_store.specs.Strikes.{answer_under, is_performed, performed_under}

-- A call is performed or not, and adds its entry.
pub called_is : (line : ℕ) (party : Party) (x : Exchange) (strike : Strike) (store : Store)
    → store_after_call line party x strike store ≡ with_entry line party (event_of x store) (answer_under strike (answer_of x store)) (performed_under strike x store)
called_is line party x None store = refl
called_is line party x (Some true) store = refl
called_is line party x (Some false) store = refl

-- Two stores with the same history, of which one is chosen.
pub chosen_history : (b : Bool) (one other : Store) → one.history ≡ other.history → (if b then one else other).history ≡ other.history
chosen_history true one other same = same
chosen_history false one other same = refl

-- What is performed leaves the history as it is.
pub same_history : (x : Exchange) (store : Store) → (after_exchange x store).history ≡ store.history
same_history (Plain event) store = refl
same_history (DrawsJob moment) store = refl
same_history (DrawsTable moment) store = refl
same_history (PutsTable table rows) store = refl
same_history (PutsManifest version change value) store = chosen_history (version == store.manifest.version) _ store refl
same_history (PutsRecords version change epoch jobs) store = chosen_history (version == records_version store.records) _ store refl
same_history ListsTables store = refl
same_history (DeletesTable table) store = refl

pub same_history_under : (strike : Strike) (x : Exchange) (store : Store) → (performed_under strike x store).history ≡ store.history
same_history_under strike x store = chosen_history (is_performed strike) (after_exchange x store) store (same_history x store)
