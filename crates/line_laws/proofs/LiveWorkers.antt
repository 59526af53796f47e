-- The history alone says which workers are live.
use Rattle.std.proofs.Common.{◌≡◌, refl, sym, ◌∙◌, ap, ℕ, List, [], ◌∷◌, ◌++◌, cond, Bool, true, false, Option, Some}
use Rattle.std.specs.Prelude.{◌==◌, nat_lt, not, filter, find, is_some}
use Rattle.std.proofs.lemmas.Bool.Decides.{Decides-eqb}
use Rattle.fleet_model.specs.Nodes.{Tables}
use Rattle.fleet_model.specs.Jobs.{JobSpec, contains}
use Rattle.fleet_model.specs.History.{Party, Writer, Submitter, Coordinator, Worker, Sweeper, Event, GetManifest, GetRecords, PutManifest, ManifestEpoch, Start, Kill, Answer, Done, Entry}
use Rattle.fleet_model.specs.Store.{fresh_store, records_epoch}
use Rattle.fleet_model.specs.Past.Replay.{after_entry, plain_objects}
use Rattle.fleet_model.specs.Past.Live.{LiveParties, is_fault, last_epoch, without_coordinator_of, fenced_by, coordinator_did, worker_did, party_did, live_from}
use Rattle.fleet_model.specs.Work.Parties.{LiveWorker, Parties, worker_with, without_worker, with_worker}
use Rattle.line_laws.specs.Live.{WorkersAreLive}
use Rattle.script_model.specs.States.{State}

-- ---- entries

-- The workers after a note.
abbrev pub noted_to : ℕ → Event → List ℕ → List ℕ
noted_to n (Start party) ws = n ∷ ws
noted_to n (Kill party) ws = filter (λ w. not (n == w)) ws
noted_to n event ws = ws

-- The workers after a call of a party.
abbrev pub did_to : Party → Event → Answer → List ℕ → List ℕ
did_to (Worker n) event answer ws = cond (is_fault answer) (filter (λ w. not (n == w)) ws) (noted_to n event ws)
did_to party event answer ws = ws

fenced_same : (n epoch : ℕ) (s : LiveParties) → (fenced_by n epoch s).workers ≡ s.workers
fenced_same n epoch s = by (nat_lt (last_epoch n s.coordinators) epoch)
  where
    by : (b : Bool) → (cond b (without_coordinator_of n s) s).workers ≡ s.workers
    by true = refl
    by false = refl

coordinator_same : (n : ℕ) (event : Event) (answer : Answer) (s : LiveParties) → (coordinator_did n event answer s).workers ≡ s.workers
coordinator_same n GetManifest answer s = fenced_same n s.objects.manifest.epoch s
coordinator_same n GetRecords answer s = fenced_same n (records_epoch s.objects.records) s
coordinator_same n (PutManifest (ManifestEpoch epoch)) (Done version) s = refl
coordinator_same n (Start party) answer s = refl
coordinator_same n (Kill party) answer s = refl
coordinator_same n event answer s = refl

-- Which workers are live after a call depends on the call and on those that were live before it, and on nothing else.
did_is : (party : Party) (event : Event) (answer : Answer) (s : LiveParties) → (party_did party event answer s).workers ≡ did_to party event answer s.workers
did_is Writer event answer s = refl
did_is Submitter event answer s = refl
did_is Sweeper event answer s = refl
did_is (Coordinator n) event answer s = by (is_fault answer)
  where
    by : (b : Bool) → (cond b (without_coordinator_of n s) (coordinator_did n event answer s)).workers ≡ s.workers
    by true = refl
    by false = coordinator_same n event answer s
did_is (Worker n) event answer s = by (is_fault answer) event
  where
    by : (b : Bool) (event : Event) → (cond b (record s { workers = filter (λ w. not (n == w)) s.workers }) (worker_did n event s)).workers ≡ cond b (filter (λ w. not (n == w)) s.workers) (noted_to n event s.workers)
    by true event = refl
    by false (Start party) = refl
    by false (Kill party) = refl
    by false event = refl

-- The workers after these entries.
abbrev pub folded : List ℕ → List Entry → List ℕ
folded ws [] = ws
folded ws (entry ∷ history) = folded (did_to entry.party entry.event entry.answer ws) history

live_is : (tables : Tables) (specs : ℕ → JobSpec) (s : LiveParties) (history : List Entry) → (live_from tables specs s history).workers ≡ folded s.workers history
live_is tables specs s [] = refl
live_is tables specs s (entry ∷ history) =
    let t = party_did entry.party entry.event entry.answer s in
    live_is tables specs (record t { objects = after_entry tables specs entry t.objects }) history ∙ ap (λ (ws : List ℕ). folded ws history) (did_is entry.party entry.event entry.answer s)

pub folded_append : (ws : List ℕ) (front back : List Entry) → folded ws (front ++ back) ≡ folded (folded ws front) back
folded_append ws [] back = refl
folded_append ws (entry ∷ front) back = folded_append (did_to entry.party entry.event entry.answer ws) front back

-- The live workers of a history.
abbrev pub live_in : List Entry → List ℕ
live_in history = folded [] history

-- The same set of workers.
abbrev pub SameSet : List ℕ → Parties → Type 0
SameSet ws parties = (n : ℕ) → contains ws n ≡ is_some (worker_with n parties)

pub to_live : (s : State) → SameSet (live_in s.store.history) s.parties → WorkersAreLive s
to_live s same tables specs n = ap (λ (ws : List ℕ). contains ws n) (live_is tables specs (record { objects = plain_objects fresh_store; epochs = []; coordinators = []; workers = [] }) s.store.history) ∙ same n

-- ---- sets of workers

-- Without a number, a list lacks that number and has each other one exactly if it had it.
pub contains_without : (n m : ℕ) (ws : List ℕ) → contains (filter (λ w. not (n == w)) ws) m ≡ cond (n == m) false (contains ws m)
contains_without n m [] = by (n == m)
  where
    by : (b : Bool) → false ≡ cond b false false
    by true = refl
    by false = refl
contains_without n m (w ∷ ws) = by (n == w) refl (w == m) refl (contains_without n m ws)
  where
    by : (b : Bool) → (n == w) ≡ b → (c : Bool) → (w == m) ≡ c → contains (filter (λ w. not (n == w)) ws) m ≡ cond (n == m) false (contains ws m)
        → contains (cond (not b) (w ∷ filter (λ w. not (n == w)) ws) (filter (λ w. not (n == w)) ws)) m ≡ cond (n == m) false (cond c true (contains ws m))
    by true e true f rest = let same = (Decides-eqb n m).1 ((Decides-eqb n w).0 e ∙ (Decides-eqb w m).0 f) in rest ∙ ap (λ (b : Bool). cond b false (contains ws m)) same ∙ sym (ap (λ (b : Bool). cond b false true) same)
    by true e false f rest = rest
    by false e true f rest =
        let other : (n == m) ≡ false = differs (n == m) refl in
        ap (λ (c : Bool). cond c true (contains (filter (λ w. not (n == w)) ws) m)) f ∙ sym (ap (λ (b : Bool). cond b false true) other)
      where
        differs : (b : Bool) → (n == m) ≡ b → (n == m) ≡ false
        differs false h = h
        differs true h = let same = (Decides-eqb n w).1 ((Decides-eqb n m).0 h ∙ sym ((Decides-eqb w m).0 f)) in absurd (cc (e, same))
    by false e false f rest = ap (λ (c : Bool). cond c true (contains (filter (λ w. not (n == w)) ws) m)) f ∙ rest

-- Without a worker, the workers lack that one and have each other one exactly if they had it.
pub found_without : (n m : ℕ) (ws : List LiveWorker) → is_some (find (λ w. m == w.number) (filter (λ (w : LiveWorker). not (n == w.number)) ws)) ≡ cond (n == m) false (is_some (find (λ w. m == w.number) ws))
found_without n m [] = by (n == m)
  where
    by : (b : Bool) → false ≡ cond b false false
    by true = refl
    by false = refl
found_without n m (w ∷ ws) = by (n == w.number) refl (m == w.number) refl (found_without n m ws)
  where
    rest_of : Option LiveWorker
    rest_of = find (λ w. m == w.number) (filter (λ (w : LiveWorker). not (n == w.number)) ws)

    by : (b : Bool) → (n == w.number) ≡ b → (c : Bool) → (m == w.number) ≡ c → is_some rest_of ≡ cond (n == m) false (is_some (find (λ w. m == w.number) ws))
        → is_some (find (λ w. m == w.number) (cond (not b) (w ∷ filter (λ (w : LiveWorker). not (n == w.number)) ws) (filter (λ (w : LiveWorker). not (n == w.number)) ws))) ≡ cond (n == m) false (is_some (cond c (Some w) (find (λ w. m == w.number) ws)))
    by true e true f rest = let same = (Decides-eqb n m).1 ((Decides-eqb n w.number).0 e ∙ sym ((Decides-eqb m w.number).0 f)) in rest ∙ ap (λ (b : Bool). cond b false (is_some (find (λ w. m == w.number) ws))) same ∙ sym (ap (λ (b : Bool). cond b false true) same)
    by true e false f rest = rest
    by false e true f rest =
        let other : (n == m) ≡ false = differs (n == m) refl in
        ap (λ (c : Bool). is_some (cond c (Some w) rest_of)) f ∙ sym (ap (λ (b : Bool). cond b false true) other)
      where
        differs : (b : Bool) → (n == m) ≡ b → (n == m) ≡ false
        differs false h = h
        differs true h = let same = (Decides-eqb n w.number).1 ((Decides-eqb n m).0 h ∙ (Decides-eqb m w.number).0 f) in absurd (cc (e, same))
    by false e false f rest = ap (λ (c : Bool). is_some (cond c (Some w) rest_of)) f ∙ rest

pub same_without : (n : ℕ) (ws : List ℕ) (parties : Parties) → SameSet ws parties → SameSet (filter (λ w. not (n == w)) ws) (without_worker n parties)
same_without n ws parties same m = contains_without n m ws ∙ ap (λ (b : Bool). cond (n == m) false b) (same m) ∙ sym (found_without n m parties.workers)

-- The worker is live before and after.
pub same_running : (w : LiveWorker) (ws : List ℕ) (parties : Parties) → SameSet ws parties → is_some (worker_with w.number parties) ≡ true → SameSet ws (with_worker w parties)
same_running w ws parties same live m = by (m == w.number) refl
  where
    by : (b : Bool) → (m == w.number) ≡ b → contains ws m ≡ is_some (cond b (Some w) (worker_with m (without_worker w.number parties)))
    by true e = same m ∙ ap (λ (n : ℕ). is_some (worker_with n parties)) ((Decides-eqb m w.number).0 e) ∙ live
    by false e = same m ∙ sym (found_without w.number m parties.workers ∙ ap (λ (b : Bool). cond b false (is_some (worker_with m parties))) (other (w.number == m) refl))
      where
        other : (b : Bool) → (w.number == m) ≡ b → (w.number == m) ≡ false
        other false h = h
        other true h = let is = (Decides-eqb m w.number).1 (sym ((Decides-eqb w.number m).0 h)) in absurd (cc (e, is))

-- The worker comes.
pub same_started : (w : LiveWorker) (ws : List ℕ) (parties : Parties) → SameSet ws (without_worker w.number parties) → SameSet (w.number ∷ ws) (with_worker w parties)
same_started w ws parties same m = by (w.number == m) (m == w.number) refl refl
  where
    by : (b c : Bool) → (w.number == m) ≡ b → (m == w.number) ≡ c → cond b true (contains ws m) ≡ is_some (cond c (Some w) (worker_with m (without_worker w.number parties)))
    by true true e f = refl
    by false false e f = same m
    by true false e f = let is = (Decides-eqb m w.number).1 (sym ((Decides-eqb w.number m).0 e)) in absurd (cc (f, is))
    by false true e f = let is = (Decides-eqb w.number m).1 (sym ((Decides-eqb m w.number).0 f)) in absurd (cc (e, is))
