-- The history alone says which coordinators are live, and with which epochs.
use Rattle.std.proofs.Common.{◌≡◌, refl, sym, ◌∙◌, ap, subst, ℕ, List, [], ◌∷◌, ◌++◌, cond, Bool, true, false, Option, Some, None}
use Rattle.std.specs.Prelude.{◌==◌, nat_lt, not, filter, find, map, is_some, ⊤, option_map}
use Rattle.std.specs.List.{AllByRecursion}
use Rattle.fleet_model.specs.Nodes.{Tables}
use Rattle.fleet_model.specs.Jobs.{JobSpec}
use Rattle.fleet_model.specs.History.{Party, Writer, Submitter, Coordinator, Worker, Sweeper, Event, GetManifest, GetRecords, PutManifest, PutRecords, ManifestEpoch, Flush, Commit, RecordChange, RecordsEpoch, Start, Kill, Answer, Done, Entry, stood}
use Rattle.fleet_model.specs.Store.{Records, fresh_store, records_epoch}
use Rattle.fleet_model.specs.Past.Replay.{Objects, after_entry, after_event, epoch_after, plain_objects, plain_records, replayed_objects, IsReplayed}
use Rattle.fleet_model.specs.Exchanges.{records_answer}
use Rattle.fleet_model.specs.Past.Live.{LiveParties, is_fault, last_epoch, without_coordinator_of, fenced_by, coordinator_did, worker_did, party_did, live_from, live_after}
use Rattle.fleet_model.specs.Work.Parties.{LiveCoordinator, Parties, coordinator_with, without_coordinator}
use Rattle.script_model.specs.States.{State}
use Rattle.line_laws.specs.Lines.PollRuns.{Answered, entry_of}
use Rattle.line_laws.proofs.QuietCalls.{is_note}
use Rattle.line_laws.proofs.LiveLines.{map_both}

-- ---- lists of coordinators

-- The pairs without those of this number.
abbrev pub without : ℕ → List (ℕ × ℕ) → List (ℕ × ℕ)
without n cs = filter (λ c. not (n == c.0)) cs

pub without_twice : (n : ℕ) (cs : List (ℕ × ℕ)) → without n (without n cs) ≡ without n cs
without_twice n [] = refl
without_twice n (c ∷ cs) = by (n == c.0) refl (without_twice n cs)
  where
    by : (b : Bool) → (n == c.0) ≡ b → without n (without n cs) ≡ without n cs → without n (cond (not b) (c ∷ without n cs) (without n cs)) ≡ cond (not b) (c ∷ without n cs) (without n cs)
    by true e rest = rest
    by false e rest = ap (λ (b : Bool). cond (not b) (c ∷ without n (without n cs)) (without n (without n cs))) e ∙ ap (λ (ds : List (ℕ × ℕ)). c ∷ ds) rest

-- The coordinators of a state, each with its epoch.
abbrev pub pairs_of : Parties → List (ℕ × ℕ)
pairs_of parties = map (λ c. (c.number, c.epoch)) parties.coordinators

-- The pairs of a state without a coordinator are those of the state without that number.
pub pairs_without : (n : ℕ) (parties : Parties) → pairs_of (without_coordinator n parties) ≡ without n (pairs_of parties)
pairs_without n parties = on parties.coordinators
  where
    on : (cs : List LiveCoordinator) → map (λ (c : LiveCoordinator). (c.number, c.epoch)) (filter (λ (c : LiveCoordinator). not (n == c.number)) cs) ≡ without n (map (λ (c : LiveCoordinator). (c.number, c.epoch)) cs)
    on [] = refl
    on (c ∷ cs) = by (not (n == c.number)) (on cs)
      where
        by : (b : Bool) → map (λ (c : LiveCoordinator). (c.number, c.epoch)) (filter (λ (c : LiveCoordinator). not (n == c.number)) cs) ≡ without n (map (λ (c : LiveCoordinator). (c.number, c.epoch)) cs)
            → map (λ (c : LiveCoordinator). (c.number, c.epoch)) (cond b (c ∷ filter (λ (c : LiveCoordinator). not (n == c.number)) cs) (filter (λ (c : LiveCoordinator). not (n == c.number)) cs))
            ≡ cond b ((c.number, c.epoch) ∷ without n (map (λ (c : LiveCoordinator). (c.number, c.epoch)) cs)) (without n (map (λ (c : LiveCoordinator). (c.number, c.epoch)) cs))
        by true rest = ap (λ (ds : List (ℕ × ℕ)). (c.number, c.epoch) ∷ ds) rest
        by false rest = rest

-- Without a coordinator that is not live, all pairs stay.
pub pairs_absent : (n : ℕ) (parties : Parties) → is_some (coordinator_with n parties) ≡ false → without n (pairs_of parties) ≡ pairs_of parties
pairs_absent n parties none = on parties.coordinators none
  where
    on : (cs : List LiveCoordinator) → is_some (find (λ (c : LiveCoordinator). n == c.number) cs) ≡ false → without n (map (λ (c : LiveCoordinator). (c.number, c.epoch)) cs) ≡ map (λ (c : LiveCoordinator). (c.number, c.epoch)) cs
    on [] none = refl
    on (c ∷ cs) none = by (n == c.number) none (on cs)
      where
        rest_of : List (ℕ × ℕ)
        rest_of = map (λ (c : LiveCoordinator). (c.number, c.epoch)) cs

        by : (b : Bool) → is_some (cond b (Some c) (find (λ (c : LiveCoordinator). n == c.number) cs)) ≡ false → (is_some (find (λ (c : LiveCoordinator). n == c.number) cs) ≡ false → without n rest_of ≡ rest_of)
            → cond (not b) ((c.number, c.epoch) ∷ without n rest_of) (without n rest_of) ≡ (c.number, c.epoch) ∷ rest_of
        by true none rest = absurd (cc none)
        by false none rest = ap (λ (ds : List (ℕ × ℕ)). (c.number, c.epoch) ∷ ds) (rest none)

-- The epoch of a live coordinator is the one in its pair.
pub epoch_found : (n : ℕ) (parties : Parties) (c : LiveCoordinator) → coordinator_with n parties ≡ Some c → last_epoch n (pairs_of parties) ≡ c.epoch
epoch_found n parties c there = on parties.coordinators there
  where
    on : (cs : List LiveCoordinator) → find (λ (d : LiveCoordinator). n == d.number) cs ≡ Some c → last_epoch n (map (λ (d : LiveCoordinator). (d.number, d.epoch)) cs) ≡ c.epoch
    on [] there = absurd (cc there)
    on (d ∷ cs) there = by (n == d.number) there (on cs)
      where
        by : (b : Bool) → cond b (Some d) (find (λ (d : LiveCoordinator). n == d.number) cs) ≡ Some c → (find (λ (d : LiveCoordinator). n == d.number) cs ≡ Some c → last_epoch n (map (λ (d : LiveCoordinator). (d.number, d.epoch)) cs) ≡ c.epoch)
            → cond b d.epoch (last_epoch n (map (λ (d : LiveCoordinator). (d.number, d.epoch)) cs)) ≡ c.epoch
        by true there rest = let same : d ≡ c = cc there in ap (λ (e : LiveCoordinator). e.epoch) same
        by false there rest = rest there

-- ---- entries

-- The parties after one more entry.
abbrev pub after_one : Tables → (ℕ → JobSpec) → LiveParties → Entry → LiveParties
after_one tables specs s entry = let t = party_did entry.party entry.event entry.answer s in record t { objects = after_entry tables specs entry t.objects }

-- The parties after these calls of a party.
abbrev pub after_made : Tables → (ℕ → JobSpec) → ℕ → Party → LiveParties → List Answered → LiveParties
after_made tables specs line party s calls = live_from tables specs s (map (entry_of line party) calls)

live_append : (tables : Tables) (specs : ℕ → JobSpec) (s : LiveParties) (front back : List Entry) → live_from tables specs s (front ++ back) ≡ live_from tables specs (live_from tables specs s front) back
live_append tables specs s [] back = refl
live_append tables specs s (entry ∷ front) back = live_append tables specs (after_one tables specs s entry) front back

pub made_append : (tables : Tables) (specs : ℕ → JobSpec) (line : ℕ) (party : Party) (s : LiveParties) (front back : List Answered) → after_made tables specs line party s (front ++ back) ≡ after_made tables specs line party (after_made tables specs line party s front) back
made_append tables specs line party s front back = ap (live_from tables specs s) (map_both line party front back) ∙ live_append tables specs s (map (entry_of line party) front) (map (entry_of line party) back)

-- The parties that the history of a state gives.
abbrev pub live_at : Tables → (ℕ → JobSpec) → State → LiveParties
live_at tables specs s = live_after tables specs s.store.history

pub at_calls : (tables : Tables) (specs : ℕ → JobSpec) (number : ℕ) (party : Party) (s new : State) (calls : List Answered) → new.store.history ≡ s.store.history ++ map (entry_of number party) calls
    → live_at tables specs new ≡ after_made tables specs number party (live_at tables specs s) calls
at_calls tables specs number party s new calls history = ap (live_after tables specs) history ∙ live_append tables specs _ s.store.history (map (entry_of number party) calls)

-- ---- other parties

-- The party is no coordinator.
abbrev pub IsNoCoordinator : Party → Type 0
IsNoCoordinator (Coordinator n) = ⊥
IsNoCoordinator party = ⊤

worker_same : (n : ℕ) (event : Event) (answer : Answer) (s : LiveParties) → (party_did (Worker n) event answer s).coordinators ≡ s.coordinators
worker_same n event answer s = by (is_fault answer) event
  where
    by : (b : Bool) (event : Event) → (cond b (record s { workers = filter (λ w. not (n == w)) s.workers }) (worker_did n event s)).coordinators ≡ s.coordinators
    by true event = refl
    by false (Start party) = refl
    by false (Kill party) = refl
    by false event = refl

pub others_made : (tables : Tables) (specs : ℕ → JobSpec) (line : ℕ) (party : Party) (s : LiveParties) (calls : List Answered) → IsNoCoordinator party → (after_made tables specs line party s calls).coordinators ≡ s.coordinators
others_made tables specs line party s [] none = refl
others_made tables specs line Writer s (call ∷ calls) none = others_made tables specs line Writer (after_one tables specs s (entry_of line Writer call)) calls none
others_made tables specs line Submitter s (call ∷ calls) none = others_made tables specs line Submitter (after_one tables specs s (entry_of line Submitter call)) calls none
others_made tables specs line Sweeper s (call ∷ calls) none = others_made tables specs line Sweeper (after_one tables specs s (entry_of line Sweeper call)) calls none
others_made tables specs line (Worker n) s (call ∷ calls) none = others_made tables specs line (Worker n) (after_one tables specs s (entry_of line (Worker n) call)) calls none ∙ worker_same n call.0 call.1 s
others_made tables specs line (Coordinator n) s (call ∷ calls) none = absurd none

-- ---- calls of a coordinator

-- The event notes that a party comes.
abbrev pub is_start : Event → Bool
is_start (Start party) = true
is_start event = false

-- Whatever a coordinator calls but the note of its start, the others stay.
did_without : (n : ℕ) (event : Event) (answer : Answer) (s : LiveParties) → is_start event ≡ false → without n (party_did (Coordinator n) event answer s).coordinators ≡ without n s.coordinators
did_without n event answer s none = by (is_fault answer)
  where
    fenced : (b : Bool) → without n (cond b (without_coordinator_of n s) s).coordinators ≡ without n s.coordinators
    fenced true = without_twice n s.coordinators
    fenced false = refl

    did : (event : Event) (answer : Answer) → is_start event ≡ false → without n (coordinator_did n event answer s).coordinators ≡ without n s.coordinators
    did GetManifest answer none = fenced (nat_lt (last_epoch n s.coordinators) s.objects.manifest.epoch)
    did GetRecords answer none = fenced (nat_lt (last_epoch n s.coordinators) (records_epoch s.objects.records))
    did (PutManifest (ManifestEpoch epoch)) (Done version) none = refl
    did (Start party) answer none = absurd (cc none)
    did (Kill party) answer none = without_twice n s.coordinators
    did event answer none = refl

    by : (b : Bool) → without n (cond b (without_coordinator_of n s) (coordinator_did n event answer s)).coordinators ≡ without n s.coordinators
    by true = without_twice n s.coordinators
    by false = did event answer none

pub made_without : (tables : Tables) (specs : ℕ → JobSpec) (line n : ℕ) (s : LiveParties) (calls : List Answered) → AllByRecursion (λ (call : Answered). is_start call.0 ≡ false) calls → without n (after_made tables specs line (Coordinator n) s calls).coordinators ≡ without n s.coordinators
made_without tables specs line n s [] none = refl
made_without tables specs line n s (call ∷ calls) none = made_without tables specs line n (after_one tables specs s (entry_of line (Coordinator n) call)) calls none.1 ∙ did_without n call.0 call.1 s none.0

-- A coordinator that meets a fault is no longer live, and the others stay.
pub struck_without : (tables : Tables) (specs : ℕ → JobSpec) (line n : ℕ) (s : LiveParties) (before : List Answered) (event : Event) (answer : Answer) → AllByRecursion (λ (call : Answered). is_start call.0 ≡ false) before → is_fault answer ≡ true
    → (after_made tables specs line (Coordinator n) s (before ++ (event, answer) ∷ [])).coordinators ≡ without n s.coordinators
struck_without tables specs line n s before event answer none fault =
    let t = after_made tables specs line (Coordinator n) s before in
    ap (λ (u : LiveParties). u.coordinators) (made_append tables specs line (Coordinator n) s before ((event, answer) ∷ []))
    ∙ ap (λ (b : Bool). (cond b (without_coordinator_of n t) (coordinator_did n event answer t)).coordinators) fault
    ∙ made_without tables specs line n s before none

-- While a coordinator is not live, its calls leave the live ones.
did_absent : (n : ℕ) (event : Event) (answer : Answer) (s : LiveParties) → is_note event ≡ false → without n s.coordinators ≡ s.coordinators → (party_did (Coordinator n) event answer s).coordinators ≡ s.coordinators
did_absent n event answer s none out = by (is_fault answer)
  where
    fenced : (b : Bool) → (cond b (without_coordinator_of n s) s).coordinators ≡ s.coordinators
    fenced true = out
    fenced false = refl

    did : (event : Event) (answer : Answer) → is_note event ≡ false → (coordinator_did n event answer s).coordinators ≡ s.coordinators
    did GetManifest answer none = fenced (nat_lt (last_epoch n s.coordinators) s.objects.manifest.epoch)
    did GetRecords answer none = fenced (nat_lt (last_epoch n s.coordinators) (records_epoch s.objects.records))
    did (PutManifest (ManifestEpoch epoch)) (Done version) none = refl
    did (Start party) answer none = absurd (cc none)
    did (Kill party) answer none = absurd (cc none)
    did event answer none = refl

    by : (b : Bool) → (cond b (without_coordinator_of n s) (coordinator_did n event answer s)).coordinators ≡ s.coordinators
    by true = out
    by false = did event answer none

pub made_absent : (tables : Tables) (specs : ℕ → JobSpec) (line n : ℕ) (s : LiveParties) (calls : List Answered) → AllByRecursion (λ (call : Answered). is_note call.0 ≡ false) calls → without n s.coordinators ≡ s.coordinators
    → (after_made tables specs line (Coordinator n) s calls).coordinators ≡ s.coordinators
made_absent tables specs line n s [] none out = refl
made_absent tables specs line n s (call ∷ calls) none out =
    let one = did_absent n call.0 call.1 s none.0 out in
    made_absent tables specs line n (after_one tables specs s (entry_of line (Coordinator n) call)) calls none.1 (ap (without n) one ∙ out ∙ sym one) ∙ one

-- The event may change the live coordinators: it is a get of an object, or a note.
abbrev pub is_seen : Event → Bool
is_seen GetManifest = true
is_seen GetRecords = true
is_seen (Start party) = true
is_seen (Kill party) = true
is_seen event = false

-- The call changes no live coordinator: its event is no such one, and no fault struck it.
abbrev pub IsUnseen : Answered → Type 0
IsUnseen call = (is_seen call.0 ≡ false) × (is_fault call.1 ≡ false)

did_unseen : (n : ℕ) (event : Event) (answer : Answer) (s : LiveParties) → is_seen event ≡ false → is_fault answer ≡ false → (party_did (Coordinator n) event answer s).coordinators ≡ s.coordinators
did_unseen n event answer s none whole = ap (λ (b : Bool). (cond b (without_coordinator_of n s) (coordinator_did n event answer s)).coordinators) whole ∙ did event answer none
  where
    did : (event : Event) (answer : Answer) → is_seen event ≡ false → (coordinator_did n event answer s).coordinators ≡ s.coordinators
    did GetManifest answer none = absurd (cc none)
    did GetRecords answer none = absurd (cc none)
    did (PutManifest (ManifestEpoch epoch)) (Done version) none = refl
    did (Start party) answer none = absurd (cc none)
    did (Kill party) answer none = absurd (cc none)
    did event answer none = refl

pub made_unseen : (tables : Tables) (specs : ℕ → JobSpec) (line n : ℕ) (s : LiveParties) (calls : List Answered) → AllByRecursion IsUnseen calls → (after_made tables specs line (Coordinator n) s calls).coordinators ≡ s.coordinators
made_unseen tables specs line n s [] none = refl
made_unseen tables specs line n s (call ∷ calls) none = made_unseen tables specs line n (after_one tables specs s (entry_of line (Coordinator n) call)) calls none.1 ∙ did_unseen n call.0 call.1 s none.0.0 none.0.1

-- The gets of a coordinator fence it or change nothing.
pub got_manifest : (tables : Tables) (specs : ℕ → JobSpec) (line n version : ℕ) (s : LiveParties) → after_one tables specs s (entry_of line (Coordinator n) (GetManifest, Done version)) ≡ fenced_by n s.objects.manifest.epoch s
got_manifest tables specs line n version s = refl

pub got_records : (tables : Tables) (specs : ℕ → JobSpec) (line n : ℕ) (records : Option Records) (s : LiveParties) → after_one tables specs s (entry_of line (Coordinator n) (GetRecords, records_answer records)) ≡ fenced_by n (records_epoch s.objects.records) s
got_records tables specs line n None s = refl
got_records tables specs line n (Some records) s = refl

-- ---- epochs of the stored objects

-- Both objects have the same epochs.
pub record SameEpochs (a b : Objects) : Type 0 where
  pub manifest : a.manifest.epoch ≡ b.manifest.epoch
  pub records : records_epoch a.records ≡ records_epoch b.records

-- What an event does to the live parties leaves the objects that the history gives.
did_objects : (party : Party) (event : Event) (answer : Answer) (s : LiveParties) → (party_did party event answer s).objects ≡ s.objects
did_objects Writer event answer s = refl
did_objects Submitter event answer s = refl
did_objects Sweeper event answer s = refl
did_objects (Coordinator n) event answer s = by (is_fault answer)
  where
    fenced : (b : Bool) → (cond b (without_coordinator_of n s) s).objects ≡ s.objects
    fenced true = refl
    fenced false = refl

    did : (event : Event) (answer : Answer) → (coordinator_did n event answer s).objects ≡ s.objects
    did GetManifest answer = fenced (nat_lt (last_epoch n s.coordinators) s.objects.manifest.epoch)
    did GetRecords answer = fenced (nat_lt (last_epoch n s.coordinators) (records_epoch s.objects.records))
    did (PutManifest (ManifestEpoch epoch)) (Done version) = refl
    did (Start party) answer = refl
    did (Kill party) answer = refl
    did event answer = refl

    by : (b : Bool) → (cond b (without_coordinator_of n s) (coordinator_did n event answer s)).objects ≡ s.objects
    by true = refl
    by false = did event answer
did_objects (Worker n) event answer s = by (is_fault answer) event
  where
    by : (b : Bool) (event : Event) → (cond b (record s { workers = filter (λ w. not (n == w)) s.workers }) (worker_did n event s)).objects ≡ s.objects
    by true event = refl
    by false (Start party) = refl
    by false (Kill party) = refl
    by false event = refl

epoch_alike : (change : RecordChange) (a b : Option Records) → records_epoch a ≡ records_epoch b → epoch_after change a ≡ epoch_after change b
epoch_alike (RecordsEpoch epoch) a b same = refl
epoch_alike change None None same = same
epoch_alike change None (Some r) same = same
epoch_alike change (Some q) None same = same
epoch_alike change (Some q) (Some r) same = same

event_alike : (tables more : Tables) (one other : ℕ → JobSpec) (event : Event) (a b : Objects) → SameEpochs a b → SameEpochs (after_event tables one event a) (after_event more other event b)
event_alike tables more one other (PutManifest (ManifestEpoch epoch)) a b same = record { manifest = refl; records = same.records }
event_alike tables more one other (PutManifest (Flush name segment floor tick)) a b same = record { manifest = same.manifest; records = same.records }
event_alike tables more one other (PutManifest (Commit steps)) a b same = record { manifest = same.manifest; records = same.records }
event_alike tables more one other (PutRecords change) a b same = record { manifest = same.manifest; records = epoch_alike change a.records b.records same.records }
event_alike tables more one other event a b same = same

entry_alike : (tables more : Tables) (one other : ℕ → JobSpec) (entry : Entry) (a b : Objects) → SameEpochs a b → SameEpochs (after_entry tables one entry a) (after_entry more other entry b)
entry_alike tables more one other entry a b same = by (stood entry.answer)
  where
    by : (took : Bool) → SameEpochs (cond took (after_event tables one entry.event a) a) (cond took (after_event more other entry.event b) b)
    by true = event_alike tables more one other entry.event a b same
    by false = same

live_alike : (tables more : Tables) (one other : ℕ → JobSpec) (s : LiveParties) (o : Objects) (history : List Entry) → SameEpochs s.objects o → SameEpochs (live_from tables one s history).objects (replayed_objects more other history o)
live_alike tables more one other s o [] same = same
live_alike tables more one other s o (entry ∷ history) same =
    let t = party_did entry.party entry.event entry.answer s in
    live_alike tables more one other (after_one tables one s entry) (after_entry more other entry o) history
    (entry_alike tables more one other entry t.objects o (subst (λ (p : Objects). SameEpochs p o) (sym (did_objects entry.party entry.event entry.answer s)) same))

-- The epochs that the history gives are the stored ones, by any tables and any specs.
pub record HasEpochs (s : State) (t : LiveParties) : Type 0 where
  pub manifest : t.objects.manifest.epoch ≡ s.store.manifest.epoch
  pub records : records_epoch t.objects.records ≡ records_epoch s.store.records

plain_epoch : (records : Option Records) → records_epoch (option_map plain_records records) ≡ records_epoch records
plain_epoch None = refl
plain_epoch (Some records) = refl

pub has_epochs : (tables : Tables) (specs : ℕ → JobSpec) (s : State) → IsReplayed s.store → HasEpochs s (live_at tables specs s)
has_epochs tables specs s replay = record {
  manifest = same.manifest ∙ sym (ap (λ (o : Objects). o.manifest.epoch) replay.objects);
  records = same.records ∙ sym (ap (λ (o : Objects). records_epoch o.records) replay.objects) ∙ plain_epoch s.store.records;
}
  where
    same : SameEpochs (live_at tables specs s).objects (replayed_objects s.store.tables replay.specs s.store.history (plain_objects fresh_store))
    same = live_alike tables s.store.tables specs replay.specs _ (plain_objects fresh_store) s.store.history (record { manifest = refl; records = refl })
