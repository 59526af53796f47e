-- A mute entry leaves the invariant and the facts, also where tables are deleted or ids drawn that nothing names.
use Rattle.std.proofs.Common.{◌≡◌, sym, ◌∙◌, ap, subst, ℕ, List, [], ◌∷◌, ◌++◌, inl, inr, ◌⊎◌, Option, Some, None}
use Rattle.std.specs.Prelude.{IsTrue, IfSome, option_map}
use Rattle.std.specs.List.{AllByRecursion}
use Rattle.std.proofs.lemmas.List.{append_assoc, append-nil}
use Rattle.row_model.specs.Fold.{Operator}
use Rattle.fleet_model.specs.Jobs.{JobSpec, Job, Context, is_active, contains}
use Rattle.fleet_model.specs.History.{Entry, stood}
use Rattle.fleet_model.specs.Store.{Manifest, Store, stored_jobs, fresh_store, AreHeld, WerePut}
use Rattle.fleet_model.specs.Past.Replay.{Objects, replayed_objects, plain_objects, plain_manifest}
use Rattle.fleet_model.specs.Handles.{job_tables}
use Rattle.fleet_model.specs.Invariants.JobsFit.{OutputsFit, was_joined}
use Rattle.fleet_model.specs.Invariants.AttemptsFit.{ContextFits}
use Rattle.fleet_model.specs.Past.Claimed.{IsClaimed}
use Rattle.step_model.specs.Past.{World, manifest_with}
use Rattle.step_model.specs.Entries.{drawn_jobs, mentioned_in, planned_attempts, attempts_in, attempts_claimed_in, epoch_in}
use Rattle.step_model.specs.Kept.Faithful.{Faithful, AgreesWith}
use Rattle.step_model.specs.Kept.NamesKept.{IsUpTo}
use Rattle.step_model.specs.Kept.Facts.{EpochsKept}
use Rattle.step_laws.proofs.Elements.{IsIn, all_to, all_push, all_front, flat_push_none, Cut, Whole, Before, cut_where}
use Rattle.step_laws.proofs.Mute.{IsMute, IsQuietFor, quiet_for}
use Rattle.step_laws.proofs.Worlds.{settings_stay, ranges_stay}
use Rattle.step_laws.proofs.Replays.{replayed_push}
use Rattle.step_laws.proofs.Grown.{named_grows, joined_grows, drawn_job_grows, pieces_grow, up_to_grows, beaten_stays_so, facts_quiet}
use Rattle.step_laws.proofs.Bodies.{JobFits, Body}

-- The world when an entry came and no object changed: only draws and deletions were counted.
abbrev pub entered : World → List ℕ → ℕ → ℕ → Entry → World
entered world deleted jobs_drawn tables_drawn entry = record {
  store = record world.store { deleted = deleted; jobs_drawn = jobs_drawn; tables_drawn = tables_drawn; history = world.store.history ++ entry ∷ [] };
  past = world.past;
}

-- ---- faithful specs

-- A manifest of the past is that of the objects.
abbrev pub Matches : List Manifest → Objects → Type 0
Matches past o = option_map plain_manifest (manifest_with o.manifest.version past) ≡ Some o.manifest

-- Specs stay faithful after a mute entry with which they agree.
pub faithful_mute : (world : World) (specs : ℕ → JobSpec) (deleted : List ℕ) (jobs_drawn tables_drawn : ℕ) (entry : Entry) → IsMute (stood entry.answer) entry.event → AgreesWith specs entry.event
    → Faithful world specs → Faithful (entered world deleted jobs_drawn tables_drawn entry) specs
faithful_mute world specs deleted jobs_drawn tables_drawn entry mute agrees f = record {
  agrees = all_push _ world.store.history entry f.agrees agrees;
  manifests = λ front back e. by front (cut_where front back world.store.history entry e);
}
  where
    by : (front : List Entry) → {back : List Entry} → Cut front back world.store.history entry → Matches world.past (replayed_objects world.store.tables specs front (plain_objects fresh_store))
    by front (Whole all) =
        let same = ap (λ h. replayed_objects world.store.tables specs h (plain_objects fresh_store)) all
        ∙ replayed_push world.store.tables specs world.store.history entry (plain_objects fresh_store)
        ∙ mute.objects world.store.tables specs (replayed_objects world.store.tables specs world.store.history (plain_objects fresh_store)) in
        subst (Matches world.past) (sym same) (f.manifests world.store.history [] (append-nil world.store.history))
    by front (Before rest part) = f.manifests front rest part

-- Specs that are faithful after an entry were so before it.
pub faithful_before : (world : World) (specs : ℕ → JobSpec) (deleted : List ℕ) (jobs_drawn tables_drawn : ℕ) (entry : Entry) → Faithful (entered world deleted jobs_drawn tables_drawn entry) specs → Faithful world specs
faithful_before world specs deleted jobs_drawn tables_drawn entry f = record {
  agrees = all_front _ world.store.history (entry ∷ []) f.agrees;
  manifests = λ front back e. f.manifests front (back ++ entry ∷ []) (sym (append_assoc front back (entry ∷ [])) ∙ ap (λ h. h ++ entry ∷ []) e);
}

-- ---- one job

pub if_some_to : {A : Type 0} (P Q : A → Type 0) (x : Option A) → ((a : A) → P a → Q a) → IfSome x P → IfSome x Q
if_some_to P Q None f h = tt
if_some_to P Q (Some a) f h = f a h

-- A deletion leaves what a job names, and its sources are no more held than before.
pub record Spares (world : World) (deleted : List ℕ) : Type 0 where
  pub put : WerePut world.store deleted
  pub pieces : AllByRecursion (λ s. AllByRecursion (λ node. AreHeld (record world.store { deleted = deleted }) node.pieces) s.tree) world.store.manifest.trees
  pub jobs : (job : Job) → IsIn job (stored_jobs world.store) → IsTrue (is_active job) → AreHeld world.store (job_tables job) → AreHeld (record world.store { deleted = deleted }) (job_tables job)
  pub back : (tables : List ℕ) → AreHeld (record world.store { deleted = deleted }) tables → AreHeld world.store tables

-- Nothing deleted spares all.
pub spares_all : (merge : Operator) (world : World) (specs : ℕ → JobSpec) → Body merge world specs → Spares world world.store.deleted
spares_all merge world specs b = record { put = b.sound.deleted; pieces = b.pieces; jobs = λ job there active h. h; back = λ tables h. h }

pub claimed_quiet : (store : Store) (specs : ℕ → JobSpec) (deleted : List ℕ) (jobs_drawn tables_drawn : ℕ) (entry : Entry) (job attempt : ℕ) (context : Context) → IsQuietFor (stood entry.answer) entry.event job
    → IsClaimed store specs job attempt context → IsClaimed (record store { deleted = deleted; jobs_drawn = jobs_drawn; tables_drawn = tables_drawn; history = store.history ++ entry ∷ [] }) specs job attempt context
claimed_quiet store specs deleted jobs_drawn tables_drawn entry job attempt context quiet h = record {
  settings = settings_stay store.tables specs store.history entry job attempt _ (quiet.beaten) h.settings;
  ranges = ranges_stay store.history entry job attempt _ (quiet.beaten) h.ranges;
}

-- What the invariant says of a stored job holds after an entry that says nothing of it, if deletions spare its tables.
pub fits_quiet : (merge : Operator) (world : World) (specs : ℕ → JobSpec) (deleted : List ℕ) (jobs_drawn tables_drawn : ℕ) (entry : Entry) (job : Job) → IsQuietFor (stood entry.answer) entry.event job.id → Spares world deleted → IsIn job (stored_jobs world.store)
    → JobFits merge world.store specs job → JobFits merge (entered world deleted jobs_drawn tables_drawn entry).store specs job
fits_quiet merge world specs deleted jobs_drawn tables_drawn entry job quiet spares there h = record {
  sources = (h.sources.0, λ compacted. still (h.sources.1 compacted));
  context = record {
    there = rw (beaten_stays_so world.store.history entry job.id (quiet.beats)) h.context.there;
    fits = if_some_to (ContextFits merge world.store specs job) (ContextFits merge (entered world deleted jobs_drawn tables_drawn entry).store specs job) job.context context h.context.fits;
  };
  outputs = λ compacted. outputs (h.outputs compacted);
  tables = λ active. record { named = spares.jobs job there active (h.tables active).named; sources = (h.tables active).sources };
}
  where
    still : {A : Type 0} → IsTrue (was_joined world.store.history job.id) ⊎ A → IsTrue (was_joined (world.store.history ++ entry ∷ []) job.id) ⊎ A
    still (inl was) = inl (joined_grows world.store.history entry job.id was)
    still (inr stand) = inr stand

    context : (c : Context) → ContextFits merge world.store specs job c → ContextFits merge (entered world deleted jobs_drawn tables_drawn entry).store specs job c
    context c fits = record {
      claimed = claimed_quiet world.store specs deleted jobs_drawn tables_drawn entry job.id job.attempt c quiet fits.claimed;
      settings = fits.settings;
      cut = fits.cut;
      ranges = fits.ranges;
      tables = fits.tables;
    }

    outputs : OutputsFit merge world.store specs job → OutputsFit merge (entered world deleted jobs_drawn tables_drawn entry).store specs job
    outputs fits = record {
      settings = fits.settings;
      claimed = settings_stay world.store.tables specs world.store.history entry job.id job.attempt _ (quiet.beaten) fits.claimed;
      cut = fits.cut;
      at_most_floor = fits.at_most_floor;
      fit = still fits.fit;
      rows = λ held. fits.rows (spares.back job.source_tables held);
    }

-- ---- the whole

-- An entry may stand in the history: it mentions drawn jobs, and plans of attempts that were claimed.
pub record IsFit (world : World) (entry : Entry) : Type 0 where
  pub mentioned : AllByRecursion (λ id. IsTrue (contains (drawn_jobs world.store.history) id)) (mentioned_in entry)
  pub planned : AllByRecursion (IsUpTo world.store.history (stored_jobs world.store)) (planned_attempts entry.event)

epochs_mute : (epoch : ℕ) (history : List Entry) (entry : Entry) → epoch_in (stood entry.answer) entry.event ≡ [] → EpochsKept epoch history → EpochsKept epoch (history ++ entry ∷ [])
epochs_mute epoch history entry none h =
    let same = flat_push_none (λ (e : Entry). epoch_in (stood e.answer) e.event) history entry none in
    record { up_to = rw same h.up_to; rise = rw same h.rise }

-- `Body` holds after a mute entry that fits the world and the specs, if deletions spare what nodes and jobs name.
pub body_mute : (merge : Operator) (world : World) (specs : ℕ → JobSpec) (deleted : List ℕ) (jobs_drawn tables_drawn : ℕ) (entry : Entry) → IsMute (stood entry.answer) entry.event → AgreesWith specs entry.event → Spares world deleted → IsFit world entry
    → Body merge world specs → Body merge (entered world deleted jobs_drawn tables_drawn entry) specs
body_mute merge world specs deleted jobs_drawn tables_drawn entry mute agrees spares fit b = record {
  sound = record { tables = b.sound.tables; table_ids = b.sound.table_ids; deleted = spares.put; root = b.sound.root; prefixes = b.sound.prefixes; job_ids = b.sound.job_ids };
  trees = record { each = b.trees.each; apart = b.trees.apart; epochs = b.trees.epochs };
  held_once = b.held_once;
  pieces = spares.pieces;
  flushes = b.flushes;
  reads = b.reads;
  objects = b.objects ∙ sym (replayed_push world.store.tables specs world.store.history entry (plain_objects fresh_store) ∙ mute.objects world.store.tables specs (replayed_objects world.store.tables specs world.store.history (plain_objects fresh_store)));
  faithful = faithful_mute world specs deleted jobs_drawn tables_drawn entry mute agrees b.faithful;
  mentioned = all_push _ world.store.history entry
      (all_to _ _ world.store.history (λ e there old. all_to _ _ (mentioned_in e) (λ id one drawn. drawn_job_grows world.store.history entry id drawn) old) b.mentioned)
      (all_to _ _ (mentioned_in entry) (λ id one drawn. drawn_job_grows world.store.history entry id drawn) fit.mentioned);
  trimmed_already = b.trimmed_already;
  up_to = all_push _ world.store.history entry
      (all_to _ _ world.store.history (λ e there old took. all_to _ _ (attempts_in e.event) (λ a one up. up_to_grows world.store.history entry (stored_jobs world.store) a up) (old took)) b.up_to)
      (λ took. rw (mute.quiet.attempts took) tt);
  planned = all_push _ world.store.history entry
      (all_to _ _ world.store.history (λ e there old. all_to _ _ (planned_attempts e.event) (λ a one up. up_to_grows world.store.history entry (stored_jobs world.store) a up) old) b.planned)
      (all_to _ _ (planned_attempts entry.event) (λ a one up. up_to_grows world.store.history entry (stored_jobs world.store) a up) fit.planned);
  once = rw (flat_push_none (λ (e : Entry). attempts_claimed_in (stood e.answer) e.event) world.store.history entry mute.quiet.claims) b.once;
  nodes = pieces_grow world.store.history entry world.past world.store.manifest.trees b.nodes;
  name_apart = b.name_apart;
  joined = all_push _ world.store.history entry
      (all_to _ _ world.store.history (λ e there old took. all_to _ _ _ (λ id one named. named_grows world.store.history entry id named) (old took)) b.joined)
      (λ took. rw (mute.quiet.joined took) tt);
  epochs = epochs_mute world.store.manifest.epoch world.store.history entry mute.epoch b.epochs;
  past = b.past;
  jobs = all_to _ _ (stored_jobs world.store) (λ job there kept. record {
    fits = fits_quiet merge world specs deleted jobs_drawn tables_drawn entry job (quiet_for _ _ job.id mute.quiet) spares there kept.fits;
    facts = facts_quiet world.store.history entry world.past world.store.manifest.trees job (quiet_for _ _ job.id mute.quiet) kept.facts;
    spec = λ others faithful. kept.spec others (faithful_before world others deleted jobs_drawn tables_drawn entry faithful);
  }) b.jobs;
}
