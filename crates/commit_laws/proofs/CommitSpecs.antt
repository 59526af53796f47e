-- The specs by which a commit is replayed: those of the stored replay, and the commit's own for jobs that no entry mentions.
use Rattle.std.proofs.Common.{◌≡◌, refl, sym, ◌∙◌, ap, subst, ℕ, ◌+◌, List, [], ◌∷◌, cond, Bool, true, false, Some}
use Rattle.std.specs.Prelude.{map, option_map, if◌then◌else◌}
use Rattle.std.specs.List.{AllByRecursion}
use Rattle.row_model.specs.Fold.{Operator}
use Rattle.fleet_model.specs.Nodes.{Tables}
use Rattle.fleet_model.specs.Jobs.{JobSpec, contains}
use Rattle.fleet_model.specs.History.{Party, Event, Entry, PutManifest, PutRecords, ManifestEpoch, Flush, Commit, Step, stood}
use Rattle.fleet_model.specs.Work.Records.{firsts}
use Rattle.fleet_model.specs.Store.{stored_jobs, fresh_store}
use Rattle.fleet_model.specs.Past.Replay.{Objects, outputs_in, named_specs, after_event, after_entry, replayed_objects, plain_objects, plain_manifest}
use Rattle.fleet_model.specs.Trees.{job_of}
use Rattle.step_model.specs.Past.{World, manifest_with}
use Rattle.step_model.specs.Entries.{steps_in, mentioned_in, is_mentioned}
use Rattle.step_model.specs.Kept.Faithful.{Faithful, AgreesWith}
use Rattle.step_model.specs.LawfulManifests.{IsKnownTo}
use Rattle.step_laws.proofs.Elements.{all_at, all_from, all_to, all_front, all_back, any_of, in_contains}
use Rattle.step_laws.proofs.Bodies.{Body, JobKept}
use Rattle.commit_laws.proofs.CommitSteps.{stepped_same}
use Rattle.commit_laws.proofs.Midway.{KnownCase, Stored, New, known_case}

-- The specs with a commit's own for jobs that no entry mentions.
abbrev pub with_own : List Entry → (ℕ → JobSpec) → (ℕ → JobSpec) → ℕ → JobSpec
with_own history specs own id = if is_mentioned history id then specs id else own id

-- ---- entries read the specs of the jobs that they mention

mapped_all : (P : ℕ → Type 0) (steps : List Step) → AllByRecursion P (map job_of steps) → AllByRecursion (λ step. P (job_of step)) steps
mapped_all P [] h = tt
mapped_all P (step ∷ steps) h = (h.0, mapped_all P steps h.1)

event_same : (tables : Tables) (one other : ℕ → JobSpec) (event : Event) (o : Objects) → AllByRecursion (λ id. one id ≡ other id) (steps_in event) → after_event tables one event o ≡ after_event tables other event o
event_same tables one other (PutManifest (Commit steps)) o h =
    let trees = stepped_same tables (λ job. (one job, outputs_in o.records job)) (λ job. (other job, outputs_in o.records job)) steps o.manifest.trees
    (all_to _ _ steps (λ step there same. ap (λ spec. (spec, outputs_in o.records (job_of step))) same) (mapped_all (λ id. one id ≡ other id) steps h)) in
    λ i. record o { manifest = record o.manifest { version = o.manifest.version + 1; trees = trees i } }
event_same tables one other (PutManifest (ManifestEpoch epoch)) o h = refl
event_same tables one other (PutManifest (Flush name segment floor tick)) o h = refl
event_same tables one other (PutRecords change) o h = refl
event_same tables one other event o h = refl

entry_same : (tables : Tables) (one other : ℕ → JobSpec) (entry : Entry) (o : Objects) → AllByRecursion (λ id. one id ≡ other id) (mentioned_in entry) → after_entry tables one entry o ≡ after_entry tables other entry o
entry_same tables one other entry o h = by (stood entry.answer) (all_back _ (firsts (named_specs entry.event)) (if stood entry.answer then steps_in entry.event else []) h)
  where
    by : (b : Bool) → AllByRecursion (λ id. one id ≡ other id) (if b then steps_in entry.event else []) → (if b then after_event tables one entry.event o else o) ≡ (if b then after_event tables other entry.event o else o)
    by true k = event_same tables one other entry.event o k
    by false k = refl

pub replay_same : (tables : Tables) (one other : ℕ → JobSpec) (history : List Entry) (o : Objects) → AllByRecursion (λ entry. AllByRecursion (λ id. one id ≡ other id) (mentioned_in entry)) history → replayed_objects tables one history o ≡ replayed_objects tables other history o
replay_same tables one other [] o h = refl
replay_same tables one other (entry ∷ history) o h = ap (replayed_objects tables one history) (entry_same tables one other entry o h.0) ∙ replay_same tables one other history (after_entry tables other entry o) h.1

-- ---- faithful with the commit's own

mentioned_same : (history : List Entry) (specs own : ℕ → JobSpec) → AllByRecursion (λ entry. AllByRecursion (λ id. specs id ≡ with_own history specs own id) (mentioned_in entry)) history
mentioned_same history specs own = all_from _ history (λ entry there. all_from _ (mentioned_in entry) (λ id one.
    sym (ap (λ b. cond b (specs id) (own id)) (any_of (λ (e : Entry). contains (mentioned_in e) id) history entry there (in_contains (mentioned_in entry) id one)))))

firsts_all : {A : Type 0} (P : ℕ → Type 0) (pairs : List (ℕ × A)) → AllByRecursion P (firsts pairs) → AllByRecursion (λ p. P p.0) pairs
firsts_all P [] h = tt
firsts_all P (p ∷ pairs) h = (h.0, firsts_all P pairs h.1)

both_all : {A : Type 0} (P Q R : A → Type 0) (xs : List A) → ((x : A) → P x → Q x → R x) → AllByRecursion P xs → AllByRecursion Q xs → AllByRecursion R xs
both_all P Q R [] f h k = tt
both_all P Q R (x ∷ xs) f h k = (f x h.0 k.0, both_all P Q R xs f h.1 k.1)

pub faithful_own : (world : World) (specs own : ℕ → JobSpec) → Faithful world specs → Faithful world (with_own world.store.history specs own)
faithful_own world specs own f = record {
  agrees = both_all (λ (entry : Entry). AgreesWith specs entry.event) (λ (entry : Entry). AllByRecursion (λ id. specs id ≡ with_own world.store.history specs own id) (mentioned_in entry)) (λ (entry : Entry). AgreesWith (with_own world.store.history specs own) entry.event)
      world.store.history (λ entry agrees same. both_all _ _ _ (named_specs entry.event) (λ p is e. sym e ∙ is) agrees (firsts_all (λ id. specs id ≡ with_own world.store.history specs own id) (named_specs entry.event) (all_front _ (firsts (named_specs entry.event)) (if stood entry.answer then steps_in entry.event else []) same)))
      f.agrees (mentioned_same world.store.history specs own);
  manifests = λ front back e. subst (λ (o : Objects). option_map plain_manifest (manifest_with o.manifest.version world.past) ≡ Some o.manifest)
      (replay_same world.store.tables specs (with_own world.store.history specs own) front (plain_objects fresh_store) (all_front _ front back (subst (AllByRecursion (λ entry. AllByRecursion (λ id. specs id ≡ with_own world.store.history specs own id) (mentioned_in entry))) (sym e) (mentioned_same world.store.history specs own)))) (f.manifests front back e);
}

-- Each step's spec is that of the replay.
pub own_spec : (merge : Operator) (world : World) (party : Party) (specs own : ℕ → JobSpec) (id : ℕ) → Body merge world specs → Faithful world (with_own world.store.history specs own) → IsKnownTo party world own id → with_own world.store.history specs own id ≡ own id
own_spec merge world party specs own id b f known = by (known_case party world own id known)
  where
    by : KnownCase party world own id → with_own world.store.history specs own id ≡ own id
    by (Stored job there found same is) =
        subst (λ n. with_own world.store.history specs own n ≡ own id) (sym same) ((all_at (JobKept merge world specs) (stored_jobs world.store) job b.jobs there).spec (with_own world.store.history specs own) f ∙ sym is)
    by (New none drew unmentioned) = ap (λ b. cond b (specs id) (own id)) unmentioned
