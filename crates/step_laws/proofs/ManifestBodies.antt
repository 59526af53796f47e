-- A put of the manifest that takes effect and is no commit keeps the invariant, if the new manifest does.
use Rattle.std.proofs.Common.{◌≡◌, refl, sym, ◌∙◌, ap, subst, ℕ, ◌+◌, ◌<◌, ◌≤◌, List, [], ◌∷◌, ◌++◌, cond, Bool, true, false, inl, inr, ◌⊎◌, Option, Some, None, arith}
use Rattle.std.specs.Prelude.{IsTrue, IfSome, ◌==◌, ◌||◌, ◌&&◌, find, option_map, map, is_some}
use Rattle.std.specs.List.{AllByRecursion}
use Rattle.std.specs.List.Sorted.{IsStrictlySortedBy}
use Rattle.std.proofs.lemmas.List.{append_assoc}
use Rattle.std.proofs.lemmas.Bool.Decides.{Decides-eqb}
use Rattle.row_model.specs.Rows.{key_cmp}
use Rattle.row_model.specs.Settings.{Settings}
use Rattle.row_model.specs.Fold.{Operator}
use Rattle.fleet_model.specs.Jobs.{JobSpec, Job, Context, Compacted, has_status, is_active}
use Rattle.fleet_model.specs.History.{Entry, stood}
use Rattle.fleet_model.specs.Store.{Manifest, stored_jobs, fresh_store, AreHeld, WerePut}
use Rattle.fleet_model.specs.Past.Replay.{Objects, after_entry, replayed_objects, plain_objects, plain_manifest, named_specs}
use Rattle.fleet_model.specs.Work.Gates.{reserves_nodes}
use Rattle.fleet_model.specs.Handles.{job_tables}
use Rattle.fleet_model.specs.Invariants.TreesFit.{AreTrees, RootIsFirst}
use Rattle.fleet_model.specs.Invariants.JobsFit.{OutputsFit, SettingsFit, SourcesStand, was_joined}
use Rattle.fleet_model.specs.Invariants.AttemptsFit.{ContextFits}
use Rattle.fleet_model.specs.Invariants.ReadsFit.{TreeKeepsReads}
use Rattle.step_model.specs.Past.{World, manifest_with, past_after, world_after}
use Rattle.step_model.specs.Entries.{mentioned_in, planned_attempts, attempts_in, attempts_claimed_in}
use Rattle.step_model.specs.Kept.Faithful.{Faithful}
use Rattle.step_model.specs.LawfulTables.{was_piece}
use Rattle.step_model.specs.Kept.TablesKept.{PiecesKept}
use Rattle.step_model.specs.Kept.JoinsKept.{JoinStands}
use Rattle.step_model.specs.Kept.Facts.{EpochsKept, PastKept}
use Rattle.step_laws.proofs.Elements.{IsIn, all_to, all_push, all_front, pairs_push, flat_push_none, found_front, is_itself, Cut, Whole, Before, cut_where}
use Rattle.step_laws.proofs.Mute.{IsQuiet, quiet_for}
use Rattle.step_laws.proofs.Replays.{replayed_push, part_version}
use Rattle.step_laws.proofs.Grown.{named_grows, drawn_job_grows, up_to_grows, facts_quiet}
use Rattle.step_laws.proofs.Bodies.{JobFacts, JobFits, JobKept, Body}
use Rattle.step_laws.proofs.MuteBodies.{Matches, fits_quiet, spares_all}

-- The world when a manifest was put.
abbrev pub with_manifest : World → Manifest → Entry → World
with_manifest world manifest entry = record {
  store = record world.store { manifest = manifest; history = world.store.history ++ entry ∷ [] };
  past = world.past ++ manifest ∷ [];
}

next_differs : (n m : ℕ) → m ≡ n + 1 → (n == m) ≡ false
next_differs n m next = by (n == m) refl
  where
    by : (b : Bool) → (n == m) ≡ b → b ≡ false
    by true e = let same = (Decides-eqb n m).0 e in absurd (omega (arith, same, next))
    by false e = refl

pub world_with_manifest : (world : World) (manifest : Manifest) (entry : Entry) → manifest.version ≡ world.store.manifest.version + 1 → world_after world (with_manifest world manifest entry).store ≡ with_manifest world manifest entry
world_with_manifest world manifest entry next =
    let grows : past_after world.store (with_manifest world manifest entry).store world.past ≡ world.past ++ manifest ∷ [] = ap (λ b. cond b world.past (world.past ++ manifest ∷ [])) (next_differs world.store.manifest.version manifest.version next) in
    λ i. record { store = (with_manifest world manifest entry).store; past = grows i }

-- ---- the past

find_not_last : {A : Type 0} (p : A → Bool) (xs : List A) (x : A) → p x ≡ false → find p (xs ++ x ∷ []) ≡ find p xs
find_not_last p [] x fails = ap (λ b. cond b (Some x) None) fails
find_not_last p (y ∷ xs) x fails = ap (λ found. cond (p y) (Some y) found) (find_not_last p xs x fails)

find_last : {A : Type 0} (p : A → Bool) (xs : List A) (x : A) → AllByRecursion (λ y. p y ≡ false) xs → p x ≡ true → find p (xs ++ x ∷ []) ≡ Some x
find_last p [] x none e = ap (λ b. cond b (Some x) None) e
find_last p (y ∷ xs) x none e = ap (λ b. cond b (Some y) (find p (xs ++ x ∷ []))) none.0 ∙ find_last p xs x none.1 e

differs : (n m : ℕ) → m < n → (n == m) ≡ false
differs n m low = by (n == m) refl
  where
    by : (b : Bool) → (n == m) ≡ b → b ≡ false
    by true e = let same = (Decides-eqb n m).0 e in absurd (omega (arith, same, low))
    by false e = refl

pub past_grows : (old new : Manifest) (past : List Manifest) → new.version ≡ old.version + 1 → PastKept old past → PastKept new (past ++ new ∷ [])
past_grows old new past next h = record {
  last = find_last (λ (m : Manifest). new.version == m.version) past new (all_to _ _ past (λ m there low. differs new.version m.version (omega (arith, low, next))) h.up_to) (is_itself new.version);
  up_to = all_push _ past new (all_to _ _ past (λ m there low. omega (arith, low, next)) h.up_to) (omega arith);
  rise = pairs_push _ past new h.rise (all_to _ _ past (λ m there low. omega (arith, low, next)) h.up_to);
}

-- ---- what a new manifest has to be

-- The entry of a put of the manifest that is no commit.
pub record IsManifestEntry (entry : Entry) : Type 0 where
  pub quiet : IsQuiet (stood entry.answer) entry.event
  pub unnamed : named_specs entry.event ≡ []
  pub unplanned : planned_attempts entry.event ≡ []

-- The new manifest follows the stored one, with what is said of its trees and reads.
pub record Follows (merge : Operator) (world : World) (specs : ℕ → JobSpec) (manifest : Manifest) (entry : Entry) : Type 0 where
  pub next : manifest.version ≡ world.store.manifest.version + 1
  pub objects : after_entry world.store.tables specs entry (plain_objects world.store) ≡ plain_objects (with_manifest world manifest entry).store
  pub root : RootIsFirst manifest.trees
  pub prefixes : IsStrictlySortedBy key_cmp (map (λ s. s.prefix) manifest.trees)
  pub trees : AreTrees (with_manifest world manifest entry).store
  pub pieces : AllByRecursion (λ s. AllByRecursion (λ node. AreHeld world.store node.pieces) s.tree) manifest.trees
  pub flushes : AllByRecursion (λ s. AllByRecursion (λ node. WerePut world.store node.flushes) s.tree) manifest.trees
  pub reads : AllByRecursion (λ s. TreeKeepsReads merge (with_manifest world manifest entry).store s.tree) manifest.trees
  pub nodes : PiecesKept (world.store.history ++ entry ∷ []) (world.past ++ manifest ∷ []) manifest.trees
  pub epochs : EpochsKept manifest.epoch (world.store.history ++ entry ∷ [])

-- And what is said of each stored job.
pub record JobFollows (world : World) (manifest : Manifest) (job : Job) : Type 0 where
  pub stand : SourcesStand world.store.manifest.trees job → SourcesStand manifest.trees job
  pub fit : (settings : Settings) → IsTrue (reserves_nodes job) → SourcesStand world.store.manifest.trees job → SettingsFit world.store.manifest job.spec settings → SettingsFit manifest job.spec settings
  pub floor : world.store.manifest.floor ≤ manifest.floor
  pub unused : (table : ℕ) → was_piece world.past table ≡ false → IsTrue (is_active job) → IsIn table (job_tables job) → was_piece (world.past ++ manifest ∷ []) table ≡ false
  pub joined : JoinStands world.past world.store.manifest.trees job → JoinStands (world.past ++ manifest ∷ []) manifest.trees job

-- ---- faithful specs

pub matches_stay : (past : List Manifest) (manifest : Manifest) (o : Objects) → Matches past o → Matches (past ++ manifest ∷ []) o
matches_stay past manifest o h = by (manifest_with o.manifest.version past) refl h
  where
    by : (found : Option Manifest) → manifest_with o.manifest.version past ≡ found → option_map plain_manifest found ≡ Some o.manifest → Matches (past ++ manifest ∷ []) o
    by None e h = absurd (cc h)
    by (Some m) e h = ap (option_map plain_manifest) (found_front (λ (other : Manifest). o.manifest.version == other.version) past (manifest ∷ []) m e) ∙ h

-- Specs stay faithful after a put of the manifest that is no commit, if the manifest follows the stored one.
pub faithful_with_manifest : (merge : Operator) (world : World) (specs : ℕ → JobSpec) (manifest : Manifest) (entry : Entry) → Body merge world specs → IsManifestEntry entry → Follows merge world specs manifest entry
    → Faithful (with_manifest world manifest entry) specs
faithful_with_manifest merge world specs manifest entry b is f = record {
  agrees = all_push _ world.store.history entry b.faithful.agrees (rw is.unnamed tt);
  manifests = λ front back e. by front (cut_where front back world.store.history entry e);
}
  where
    after : replayed_objects world.store.tables specs (world.store.history ++ entry ∷ []) (plain_objects fresh_store) ≡ plain_objects (with_manifest world manifest entry).store
    after = replayed_push world.store.tables specs world.store.history entry (plain_objects fresh_store) ∙ ap (after_entry world.store.tables specs entry) (sym b.objects) ∙ f.objects

    by : (front : List Entry) → {back : List Entry} → Cut front back world.store.history entry → Matches (world.past ++ manifest ∷ []) (replayed_objects world.store.tables specs front (plain_objects fresh_store))
    by front (Whole all) =
        subst (Matches (world.past ++ manifest ∷ [])) (sym (ap (λ h. replayed_objects world.store.tables specs h (plain_objects fresh_store)) all ∙ after))
        (ap (option_map plain_manifest) (past_grows world.store.manifest manifest world.past f.next b.past).last)
    by front (Before rest part) = matches_stay world.past manifest (replayed_objects world.store.tables specs front (plain_objects fresh_store)) (b.faithful.manifests front rest part)

-- Specs that are faithful after a put of the next manifest were faithful before it.
pub faithful_before_manifest : (merge : Operator) (world : World) (specs others : ℕ → JobSpec) (manifest : Manifest) (entry : Entry) → Body merge world specs → manifest.version ≡ world.store.manifest.version + 1
    → Faithful (with_manifest world manifest entry) others → Faithful world others
faithful_before_manifest merge world specs others manifest entry b next f = record {
  agrees = all_front _ world.store.history (entry ∷ []) f.agrees;
  manifests = λ front back e. by front back e (f.manifests front (back ++ entry ∷ []) (sym (append_assoc front back (entry ∷ [])) ∙ ap (λ h. h ++ entry ∷ []) e));
}
  where
    by : (front back : List Entry) → front ++ back ≡ world.store.history → Matches (world.past ++ manifest ∷ []) (replayed_objects world.store.tables others front (plain_objects fresh_store)) → Matches world.past (replayed_objects world.store.tables others front (plain_objects fresh_store))
    by front back e h =
        let objects : (replayed_objects world.store.tables specs (front ++ back) (plain_objects fresh_store)).manifest.version ≡ world.store.manifest.version =
        ap (λ history. (replayed_objects world.store.tables specs history (plain_objects fresh_store)).manifest.version) e ∙ sym (ap (λ (o : Objects). o.manifest.version) b.objects) in
        let low = part_version world.store.tables world.store.tables others specs front back (plain_objects fresh_store) in
        let small : (replayed_objects world.store.tables others front (plain_objects fresh_store)).manifest.version < manifest.version = omega (arith, objects, low, next) in
        sym (ap (option_map plain_manifest) (find_not_last (λ (m : Manifest). (replayed_objects world.store.tables others front (plain_objects fresh_store)).manifest.version == m.version) world.past manifest (below _ _ small))) ∙ h
      where
        below : (n m : ℕ) → n < m → (n == m) ≡ false
        below n m small = test (n == m) refl
          where
            test : (b : Bool) → (n == m) ≡ b → b ≡ false
            test true same = let equal = (Decides-eqb n m).0 same in absurd (omega (arith, equal, small))
            test false same = refl

-- ---- one job

pub or_left : (a b : Bool) → IsTrue a → IsTrue (a || b)
or_left true b h = refl
or_left false b h = absurd (cc h)

pub or_right : (a b : Bool) → IsTrue b → IsTrue (a || b)
or_right true b h = refl
or_right false b h = h

-- What the invariant says of a job holds under a new manifest, if its sources stand there and its settings fit.
fits_with_manifest : (merge : Operator) (world : World) (specs : ℕ → JobSpec) (manifest : Manifest) (history : List Entry) (job : Job) → JobFollows world manifest job
    → JobFits merge (record world.store { history = history }) specs job → JobFits merge (record world.store { manifest = manifest; history = history }) specs job
fits_with_manifest merge world specs manifest history job follows h = record {
  sources = ((λ waits. follows.stand (h.sources.0 waits)), λ compacted. moved (h.sources.1 compacted));
  context = record { there = h.context.there; fits = context job.context refl h.context.fits };
  outputs = λ compacted. outputs compacted (h.sources.1 compacted) (h.outputs compacted);
  tables = λ active. record { named = (h.tables active).named; sources = (h.tables active).sources };
}
  where
    moved : {A : Type 0} → A ⊎ SourcesStand world.store.manifest.trees job → A ⊎ SourcesStand manifest.trees job
    moved (inl was) = inl was
    moved (inr stand) = inr (follows.stand stand)

    context : (o : Option Context) → job.context ≡ o → IfSome o (ContextFits merge (record world.store { history = history }) specs job) → IfSome o (ContextFits merge (record world.store { manifest = manifest; history = history }) specs job)
    context None is f = tt
    context (Some c) is f =
        let waits = (h.context.there.0 (ap is_some is)).0 in
        record {
          claimed = record { settings = f.claimed.settings; ranges = f.claimed.ranges };
          settings = follows.fit c.settings (or_left _ _ waits) (h.sources.0 waits) f.settings;
          cut = f.cut;
          ranges = f.ranges;
          tables = f.tables;
        }

    outputs : IsTrue (has_status Compacted job) → IsTrue (was_joined history job.id) ⊎ SourcesStand world.store.manifest.trees job → OutputsFit merge (record world.store { history = history }) specs job
        → OutputsFit merge (record world.store { manifest = manifest; history = history }) specs job
    outputs compacted stands f = record {
      settings = f.settings;
      claimed = f.claimed;
      cut = f.cut;
      at_most_floor = let low = f.at_most_floor in let floor = follows.floor in omega (arith, low, floor);
      fit = by stands f.fit;
      rows = f.rows;
    }
      where
        by : IsTrue (was_joined history job.id) ⊎ SourcesStand world.store.manifest.trees job → IsTrue (was_joined history job.id) ⊎ SettingsFit world.store.manifest job.spec f.settings
            → IsTrue (was_joined history job.id) ⊎ SettingsFit manifest job.spec f.settings
        by (inl was) fit = inl was
        by (inr stand) (inl was) = inl was
        by (inr stand) (inr fit) = inr (follows.fit f.settings (or_right _ _ compacted) stand fit)

-- What the facts say of a job holds under a new manifest that holds none of its unused tables and leaves its join.
facts_with_manifest : (world : World) (manifest : Manifest) (history : List Entry) (job : Job) → JobFollows world manifest job → JobFacts history world.past world.store.manifest.trees job → JobFacts history (world.past ++ manifest ∷ []) manifest.trees job
facts_with_manifest world manifest history job follows h = record {
  named = h.named;
  unbeaten = h.unbeaten;
  unleased = h.unleased;
  flushed = h.flushed;
  drawn = h.drawn;
  unused = λ unjoined. all_to _ _ (job_tables job) (λ table there old. follows.unused table old (first _ _ unjoined) there) (h.unused unjoined);
  late = h.late;
  stand = λ compacted was. follows.joined (h.stand compacted was);
}
  where
    first : (a b : Bool) → IsTrue (a && b) → IsTrue a
    first true b h = refl
    first false b h = absurd (cc h)

-- ---- the whole

-- `Body` holds after a put of the manifest that is no commit, if the manifest follows the stored one, for all jobs too.
pub body_with_manifest : (merge : Operator) (world : World) (specs : ℕ → JobSpec) (manifest : Manifest) (entry : Entry) → IsManifestEntry entry → Follows merge world specs manifest entry
    → ((job : Job) → IsIn job (stored_jobs world.store) → JobKept merge world specs job → JobFollows world manifest job) → Body merge world specs → Body merge (with_manifest world manifest entry) specs
body_with_manifest merge world specs manifest entry is f each b = record {
  sound = record { tables = b.sound.tables; table_ids = b.sound.table_ids; deleted = b.sound.deleted; root = f.root; prefixes = f.prefixes; job_ids = b.sound.job_ids };
  trees = f.trees;
  held_once = b.held_once;
  pieces = f.pieces;
  flushes = f.flushes;
  reads = f.reads;
  objects = sym (replayed_push world.store.tables specs world.store.history entry (plain_objects fresh_store) ∙ ap (after_entry world.store.tables specs entry) (sym b.objects) ∙ f.objects);
  faithful = faithful_with_manifest merge world specs manifest entry b is f;
  mentioned = all_push _ world.store.history entry
      (all_to _ _ world.store.history (λ e there old. all_to _ _ (mentioned_in e) (λ id one drawn. drawn_job_grows world.store.history entry id drawn) old) b.mentioned)
      (rw (is.unnamed, is.quiet.steps) tt);
  trimmed_already = b.trimmed_already;
  up_to = all_push _ world.store.history entry
      (all_to _ _ world.store.history (λ e there old took. all_to _ _ (attempts_in e.event) (λ a one up. up_to_grows world.store.history entry (stored_jobs world.store) a up) (old took)) b.up_to)
      (λ took. rw (is.quiet.attempts took) tt);
  planned = all_push _ world.store.history entry
      (all_to _ _ world.store.history (λ e there old. all_to _ _ (planned_attempts e.event) (λ a one up. up_to_grows world.store.history entry (stored_jobs world.store) a up) old) b.planned)
      (rw is.unplanned tt);
  once = rw (flat_push_none (λ (e : Entry). attempts_claimed_in (stood e.answer) e.event) world.store.history entry is.quiet.claims) b.once;
  nodes = f.nodes;
  name_apart = b.name_apart;
  joined = all_push _ world.store.history entry
      (all_to _ _ world.store.history (λ e there old took. all_to _ _ _ (λ id one named. named_grows world.store.history entry id named) (old took)) b.joined)
      (λ took. rw (is.quiet.joined took) tt);
  epochs = f.epochs;
  past = past_grows world.store.manifest manifest world.past f.next b.past;
  jobs = all_to (JobKept merge world specs) (JobKept merge (with_manifest world manifest entry) specs) (stored_jobs world.store) (λ job there kept. record {
    fits = fits_with_manifest merge world specs manifest (world.store.history ++ entry ∷ []) job (each job there kept)
        (fits_quiet merge world specs world.store.deleted world.store.jobs_drawn world.store.tables_drawn entry job (quiet_for _ _ job.id is.quiet) (spares_all merge world specs b) there kept.fits);
    facts = facts_with_manifest world manifest (world.store.history ++ entry ∷ []) job (each job there kept) (facts_quiet world.store.history entry world.past world.store.manifest.trees job (quiet_for _ _ job.id is.quiet) kept.facts);
    spec = λ others faithful. kept.spec others (faithful_before_manifest merge world specs others manifest entry b f.next faithful);
  }) b.jobs;
}
