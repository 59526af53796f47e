-- A log after one more call.
use Rattle.std.proofs.Common.{◌≡◌, refl, ap, sym, ◌∙◌, ℕ, ◌+◌, ◌≤◌, ◌<◌, ◌^◌, arith, List, [], ◌∷◌, ◌++◌, map, length, length-append, Some, None}
use Rattle.std.proofs.lemmas.List.Sums.{fold-append}
use Rattle.std.proofs.lemmas.List.{map-append}
use Rattle.std.specs.declared.snapshot.Snapshot.{Snapshot}
use Rattle.fleet_model.specs.Exchanges as model
use Rattle.step_model.specs.Past.{World, fresh_world}
use Rattle.step_model.specs.Rivals.{Strike, store_after_call}
use Rattle.fleet_history.specs.Entries.{answer_of, entry_of}
use Rattle.fleet_history.specs.Parties.{party_of}
use Rattle.fleet_history.specs.declared.answer.Answer.{Answer}
use Rattle.fleet_history.specs.declared.entry.HistoryEntry.{HistoryEntry}
use Rattle.fleet_history.specs.declared.event.Event.{Event}
use Rattle.fleet_history.specs.declared.party.Party.{Party}
use Rattle.fleet_store.specs.Calls.{exchange_of, after_kept_call, world_of}
use Rattle.fleet_store.specs.Log.{IsCall, IsLog}
use Rattle.fleet_store.specs.Strikes.{answer_under, faults_after, performed_under}
use Rattle.fleet_store.specs.declared.call.Call.{Call}
use Rattle.fleet_store.specs.declared.call.Made.{Made}
use Rattle.fleet_store.proofs.Calls.{called_is, same_history_under}

-- The world after one more call.
pub world_of-push : (calls : List (Snapshot Call)) (call : Snapshot Call) → world_of (map (λ s. s.value) (calls ++ call ∷ [])) ≡ after_kept_call (world_of (map (λ s. s.value) calls)) call.value
world_of-push calls call =
    ap world_of (map-append (λ s. s.value) calls (call ∷ [])) ∙ fold-append after_kept_call fresh_world (map (λ s. s.value) calls) (call.value ∷ [])

-- Faults rise by one at most.
pub faults_after-low : (strike : Strike) (faults : ℕ) → faults_after strike faults ≤ faults + 1
faults_after-low None faults = omega arith
faults_after-low (Some stands) faults = omega arith

-- A log with one more call is a log.
pub log_after : (world : World) (history : List HistoryEntry) (faults line : ℕ) (party : Party) (made : Made) (event : Event) (answer shown : Answer) (strike : Strike)
    → IsLog world history faults → IsCall made event answer world → answer_of shown ≡ answer_under strike (answer_of answer) → length history < 2 ^ 62
    → IsLog (after_kept_call world (record { line = line; party = party; made = made; strike = strike })) (history ++ record { line = line; party = party; event = event; answer = shown } ∷ []) (faults_after strike faults)
log_after world history faults line party made event answer shown strike log call shows room =
    let x = exchange_of made world.store in
    let e : HistoryEntry = record { line = line; party = party; event = event; answer = shown } in
    let long : length (history ++ e ∷ []) ≡ length history + 1 = length-append history (e ∷ []) in
    let low = faults_after-low strike faults in
    let is : store_after_call line (party_of party) x strike world.store ≡ model.with_entry line (party_of party) (model.event_of x world.store) (answer_under strike (model.answer_of x world.store)) (performed_under strike x world.store) = called_is line (party_of party) x strike world.store in
    let entry : entry_of e ≡ record { line = line; party = party_of party; event = model.event_of x world.store; answer = answer_under strike (model.answer_of x world.store) } =
    rw (shows, call.event_is, call.answer_is) refl in
    record {
      same = map-append entry_of history (e ∷ [])
          ∙ (ap (λ h. h ++ entry_of e ∷ []) (log.same ∙ sym (same_history_under strike x world.store))
          ∙ (ap (λ n. (performed_under strike x world.store).history ++ n ∷ []) entry ∙ sym (ap (λ s. s.history) is)));
      few = omega (arith, long, low, log.few);
      short = omega (arith, long, room);
    }

-- The world after a call is remembered.
pub world_of-remembered : (calls new : List (Snapshot Call)) (snap : Snapshot Call) (call : Call) → new ≡ calls ++ snap ∷ [] → snap.value ≡ call
    → world_of (map (λ s. s.value) new) ≡ after_kept_call (world_of (map (λ s. s.value) calls)) call
world_of-remembered calls new snap call grows is = ap (λ l. world_of (map (λ s. s.value) l)) grows ∙ (world_of-push calls snap ∙ ap (after_kept_call (world_of (map (λ s. s.value) calls))) is)

-- The same of a log in which a call is remembered.
pub log_remembered : (calls new : List (Snapshot Call)) (snap : Snapshot Call) (history longer : List HistoryEntry) (faults more line : ℕ) (party : Party) (made : Made) (event : Event) (answer shown : Answer) (strike : Strike)
    → new ≡ calls ++ snap ∷ [] → snap.value ≡ record { line = line; party = party; made = made; strike = strike } → longer ≡ history ++ record { line = line; party = party; event = event; answer = shown } ∷ [] → more ≡ faults_after strike faults
    → IsLog (world_of (map (λ s. s.value) calls)) history faults → IsCall made event answer (world_of (map (λ s. s.value) calls)) → answer_of shown ≡ answer_under strike (answer_of answer) → length history < 2 ^ 62
    → IsLog (world_of (map (λ s. s.value) new)) longer more
log_remembered calls new snap history longer faults more line party made event answer shown strike grows is entries counts log call shows room =
    rw (world_of-remembered calls new snap _ grows is, entries, counts) (log_after (world_of (map (λ s. s.value) calls)) history faults line party made event answer shown strike log call shows room)
