-- Any two faithful replays are one, and settings that a history tells depend on its replay alone.
use Rattle.std.proofs.Common.{◌≡◌, refl, sym, ◌∙◌, ap, subst, ℕ, List, [], ◌∷◌, ◌++◌, cond, Bool, true, false, Option, Some}
use Rattle.std.specs.Prelude.{option_map}
use Rattle.std.proofs.lemmas.List.{append_assoc, append-nil}
use Rattle.fleet_model.specs.Nodes.{Tables}
use Rattle.fleet_model.specs.Jobs.{JobSpec}
use Rattle.fleet_model.specs.History.{Event, Entry, PutManifest, PutRecords, ManifestEpoch, Flush, Commit, stood}
use Rattle.fleet_model.specs.Store.{fresh_store}
use Rattle.fleet_model.specs.Past.Replay.{Objects, after_event, after_entry, replayed_objects, plain_objects, plain_manifest}
use Rattle.fleet_model.specs.Work.Attempts.{claim_settings}
use Rattle.fleet_model.specs.Past.Claimed.{is_worker, objects_found, objects_at_get, settings_of, origin, claimed_in}
use Rattle.fleet_model.proofs.ClaimCuts.{at_claim_or, objects_got, claim_step}
use Rattle.step_model.specs.Past.{World, manifest_with}
use Rattle.step_model.specs.Kept.Faithful.{Faithful}
use Rattle.step_laws.proofs.Replays.{replayed_push, replay_version}

-- ---- two replays

-- Two replays of a history, each from its own objects, are the same at each place.
abbrev pub SameReplays : Tables → (ℕ → JobSpec) → Tables → (ℕ → JobSpec) → List Entry → Objects → Objects → Type 0
SameReplays tables one more other history o p = (front back : List Entry) → front ++ back ≡ history → replayed_objects tables one front o ≡ replayed_objects more other front p

records_by : (tables : Tables) (one other : ℕ → JobSpec) (took : Bool) (event : Event) (o : Objects)
    → (cond took (after_event tables one event o) o).records ≡ (cond took (after_event tables other event o) o).records
records_by tables one other false event o = refl
records_by tables one other true (PutManifest (ManifestEpoch epoch)) o = refl
records_by tables one other true (PutManifest (Flush name segment floor tick)) o = refl
records_by tables one other true (PutManifest (Commit steps)) o = refl
records_by tables one other true (PutRecords change) o = refl
records_by tables one other true event o = refl

same_some : {A : Type 0} (x : Option A) (a b : A) → x ≡ Some a → x ≡ Some b → a ≡ b
same_some x a b p q = cc (p, q)

-- The objects that a replay by these specs gives after the first entries.
abbrev pub replay_by : World → (ℕ → JobSpec) → List Entry → Objects
replay_by world specs front = replayed_objects world.store.tables specs front (plain_objects fresh_store)

manifests_alike : (world : World) (one other : ℕ → JobSpec) → Faithful world one → Faithful world other → (front back : List Entry) → front ++ back ≡ world.store.history
    → (replay_by world one front).manifest ≡ (replay_by world other front).manifest
manifests_alike world one other f g front back e =
    let p = replay_version world.store.tables one front (plain_objects fresh_store) in
    let q = replay_version world.store.tables other front (plain_objects fresh_store) in
    same_some (option_map plain_manifest (manifest_with (replay_by world other front).manifest.version world.past)) _ _
    (subst (λ version. option_map plain_manifest (manifest_with version world.past) ≡ Some (replay_by world one front).manifest) (p ∙ sym q) (f.manifests front back e))
    (g.manifests front back e)

-- Faithful replays that are the same before an entry are the same after it.
step_alike : (world : World) (one other : ℕ → JobSpec) → Faithful world one → Faithful world other → (front : List Entry) (entry : Entry) (back : List Entry) → (front ++ entry ∷ []) ++ back ≡ world.store.history
    → replay_by world one front ≡ replay_by world other front → replay_by world one (front ++ entry ∷ []) ≡ replay_by world other (front ++ entry ∷ [])
step_alike world one other f g front entry back e same =
    let manifests = manifests_alike world one other f g (front ++ entry ∷ []) back e in
    let records : (replay_by world one (front ++ entry ∷ [])).records ≡ (replay_by world other (front ++ entry ∷ [])).records =
    ap (λ (o : Objects). o.records) (replayed_push world.store.tables one front entry (plain_objects fresh_store))
    ∙ records_by world.store.tables one other (stood entry.answer) entry.event (replay_by world one front)
    ∙ ap (λ (o : Objects). (after_entry world.store.tables other entry o).records) same
    ∙ sym (ap (λ (o : Objects). o.records) (replayed_push world.store.tables other front entry (plain_objects fresh_store))) in
    λ i. record { manifest = manifests i; records = records i }

alike_from : (world : World) (one other : ℕ → JobSpec) → Faithful world one → Faithful world other → (done front back : List Entry) → done ++ (front ++ back) ≡ world.store.history
    → replay_by world one done ≡ replay_by world other done → replay_by world one (done ++ front) ≡ replay_by world other (done ++ front)
alike_from world one other f g done [] back e same = rw (append-nil done) same
alike_from world one other f g done (entry ∷ front) back e same =
    rw (← append_assoc done (entry ∷ []) front)
    (alike_from world one other f g (done ++ entry ∷ []) front back (append_assoc done (entry ∷ []) (front ++ back) ∙ e)
    (step_alike world one other f g done entry (front ++ back) (append_assoc done (entry ∷ []) (front ++ back) ∙ e) same))

pub replays_alike : (world : World) (one other : ℕ → JobSpec) → Faithful world one → Faithful world other
    → SameReplays world.store.tables one world.store.tables other world.store.history (plain_objects fresh_store) (plain_objects fresh_store)
replays_alike world one other f g front back e = alike_from world one other f g [] front back e refl

-- ---- settings

get_same : (tables more : Tables) (one other : ℕ → JobSpec) (worker : ℕ) (history : List Entry) (o p : Objects) → SameReplays tables one more other history o p
    → objects_at_get tables one worker history o ≡ objects_at_get more other worker history p
get_same tables more one other worker [] o p same = refl
get_same tables more one other worker (entry ∷ history) o p same =
    let start : o ≡ p = same [] (entry ∷ history) refl in
    let further = get_same tables more one other worker history (after_entry tables one entry o) (after_entry more other entry p) (λ front back e. same (entry ∷ front) back (ap (λ es. entry ∷ es) e)) in
    λ i. cond (is_worker worker entry.party) (objects_found entry.event entry.answer (start i)) (further i)

-- If two replays of a history are the same at each place, the worker of a claim got the same objects by both.
pub claim_same : (tables more : Tables) (one other : ℕ → JobSpec) (job attempt : ℕ) (history : List Entry) (o p : Objects) → SameReplays tables one more other history o p
    → objects_got tables one job attempt history o ≡ objects_got more other job attempt history p
claim_same tables more one other job attempt [] o p same = refl
claim_same tables more one other job attempt (entry ∷ history) o p same =
    let next = λ (front back : List Entry) (e : front ++ back ≡ history). same (entry ∷ front) back (ap (λ es. entry ∷ es) e) in
    let further = claim_same tables more one other job attempt history (after_entry tables one entry o) (after_entry more other entry p) next in
    let o_next = after_entry tables one entry o in
    let p_next = after_entry more other entry p in
    let both : at_claim_or (claimed_in job attempt entry) (λ worker. objects_at_get tables one worker history o_next) (objects_got tables one job attempt history o_next)
    ≡ at_claim_or (claimed_in job attempt entry) (λ worker. objects_at_get more other worker history p_next) (objects_got more other job attempt history p_next) =
    λ i. at_claim_or (claimed_in job attempt entry) (λ worker. get_same tables more one other worker history o_next p_next next i) (further i) in
    claim_step tables one job attempt entry history o ∙ both ∙ sym (claim_step more other job attempt entry history p)

pub settings_same : (tables more : Tables) (one other : ℕ → JobSpec) (history : List Entry) (job attempt : ℕ)
    → SameReplays tables one more other history (plain_objects fresh_store) (plain_objects fresh_store) → one job ≡ other job
    → settings_of tables one history job attempt ≡ settings_of more other history job attempt
settings_same tables more one other history job attempt same spec =
    let claims = claim_same tables more one other job (origin history job attempt) history (plain_objects fresh_store) (plain_objects fresh_store) same in
    λ i. option_map (λ o. claim_settings o.manifest 0 (spec i)) (claims i)
