-- A put of the records that takes effect keeps the invariant, if the new jobs do.
use Rattle.std.proofs.Common.{◌≡◌, ◌≢◌, refl, sym, ◌∙◌, ap, subst, ℕ, ◌+◌, ◌<◌, List, [], ◌∷◌, ◌++◌, cond, Bool, true, false, Option, Some, None}
use Rattle.std.specs.Prelude.{IsTrue, ◌==◌, option_map, map}
use Rattle.std.specs.List.{AllByRecursion}
use Rattle.std.proofs.lemmas.List.{append_assoc, append-nil}
use Rattle.row_model.specs.Lists.{Pairs}
use Rattle.row_model.specs.Fold.{Operator}
use Rattle.fleet_model.specs.Jobs.{JobSpec, Job, Jobs, Context, contains, trimmed_jobs}
use Rattle.fleet_model.specs.History.{Party, Entry, PutRecords, RecordChange, RecordsEpoch, Submit, Claim, Beat, Finish, Release, Polled, Answer, stood}
use Rattle.fleet_model.specs.Store.{Records, Store, stored_jobs, jobs_in, fresh_store}
use Rattle.fleet_model.specs.Past.Replay.{after_entry, replayed_objects, plain_objects, plain_manifest, plain_records, plain_job, named_specs, next_version, epoch_after}
use Rattle.fleet_model.specs.Work.Records.{Unrecorded, firsts, jobs_after}
use Rattle.fleet_model.specs.Trees.{tables_now}
use Rattle.fleet_model.specs.Exchanges.{records_version}
use Rattle.fleet_model.specs.Invariants.TreesFit.{EpochFits}
use Rattle.fleet_model.specs.Invariants.JobsFit.{NodesHeldOnce, OutputsFit}
use Rattle.fleet_model.specs.Invariants.AttemptsFit.{ContextFits}
use Rattle.step_model.specs.Past.{World, world_after}
use Rattle.step_model.specs.Entries.{drawn_jobs, mentioned_in, planned_attempts, attempts_in, claimed_attempts, attempts_claimed_in, epoch_in}
use Rattle.step_model.specs.Kept.Faithful.{Faithful, AgreesWith}
use Rattle.step_model.specs.Kept.NamesKept.{IsUpTo}
use Rattle.step_model.specs.Kept.TablesKept.{NameApart}
use Rattle.step_laws.proofs.Elements.{all_to, all_append, all_push, all_front, flat_push, flat_push_none, is_itself, Cut, Whole, Before, cut_where}
use Rattle.step_laws.proofs.Replays.{replayed_push}
use Rattle.step_laws.proofs.Grown.{named_grows, drawn_job_grows, pieces_grow}
use Rattle.step_laws.proofs.Bodies.{JobFits, JobKept, Body}
use Rattle.step_laws.proofs.MuteBodies.{Matches, if_some_to}
use Rattle.step_laws.proofs.Plain.{SameTables, plain_jobs_after}

-- The world when the records were put.
abbrev pub with_records : World → Records → Entry → World
with_records world records entry = record { store = record world.store { records = Some records; history = world.store.history ++ entry ∷ [] }; past = world.past }

pub world_with_records : (world : World) (records : Records) (entry : Entry) → world_after world (with_records world records entry).store ≡ with_records world records entry
world_with_records world records entry =
    let same = by (world.store.manifest.version == world.store.manifest.version) (is_itself world.store.manifest.version) in
    λ i. record { store = (with_records world records entry).store; past = same i }
  where
    by : (b : Bool) → b ≡ true → cond b world.past (world.past ++ world.store.manifest ∷ []) ≡ world.past
    by true e = refl
    by false e = absurd (cc e)

-- ---- the replay

version_plain : (version : ℕ) (records : Option Records) → version ≡ records_version records → version + 1 ≡ next_version (option_map plain_records records)
version_plain version None same = ap (λ v. v + 1) same
version_plain version (Some records) same = ap (λ v. v + 1) same

-- The epoch after a change is the same for the records and for their plain form.
epoch_plain : (change : RecordChange) (records : Option Records) → epoch_after change records ≡ epoch_after change (option_map plain_records records)
epoch_plain (RecordsEpoch epoch) records = refl
epoch_plain (Submit specs) None = refl
epoch_plain (Submit specs) (Some records) = refl
epoch_plain (Claim worker attempts) None = refl
epoch_plain (Claim worker attempts) (Some records) = refl
epoch_plain (Beat worker attempts) None = refl
epoch_plain (Beat worker attempts) (Some records) = refl
epoch_plain (Finish worker id attempt outputs) None = refl
epoch_plain (Finish worker id attempt outputs) (Some records) = refl
epoch_plain (Release worker attempts) None = refl
epoch_plain (Release worker attempts) (Some records) = refl
epoch_plain (Polled change) None = refl
epoch_plain (Polled change) (Some records) = refl

jobs_plain : (records : Option Records) → map plain_job (jobs_in records) ≡ jobs_in (option_map plain_records records)
jobs_plain None = refl
jobs_plain (Some records) = refl

-- The objects that a put makes are those of a replay of its entry.
pub objects_after : (world : World) (specs : ℕ → JobSpec) (line : ℕ) (party : Party) (change : RecordChange) (answer : Answer) (u : Unrecorded) (version epoch : ℕ) (jobs : Jobs) → stood answer ≡ true
    → version ≡ records_version world.store.records → jobs ≡ jobs_after u change (stored_jobs world.store) → epoch ≡ epoch_after change world.store.records → SameTables u (tables_now world.store.manifest.trees) change (stored_jobs world.store)
    → after_entry world.store.tables specs (record { line = line; party = party; event = PutRecords change; answer = answer }) (plain_objects world.store)
    ≡ plain_objects (with_records world (record { version = version + 1; epoch = epoch; jobs = jobs }) (record { line = line; party = party; event = PutRecords change; answer = answer })).store
objects_after world specs line party change answer u version epoch jobs took same makes made tables =
    let versions = version_plain version world.store.records same in
    let epochs = made ∙ epoch_plain change world.store.records in
    let plain = ap (map plain_job) makes ∙ plain_jobs_after u (tables_now world.store.manifest.trees) change (stored_jobs world.store) tables
    ∙ ap (λ js. map plain_job (jobs_after (record { moment = 0; published = λ job. None; kept_cut = None; tables_of = tables_now world.store.manifest.trees }) change js)) (jobs_plain world.store.records) in
    rw took (λ i. record { manifest = plain_manifest world.store.manifest; records = Some (record { version = sym versions i; epoch = sym epochs i; jobs = sym plain i }) })

-- ---- what new jobs have to be

-- What the new jobs of a put of the records must meet, so that the put keeps the invariant.
pub record RecordsFollow (merge : Operator) (world : World) (specs : ℕ → JobSpec) (records : Records) (entry : Entry) : Type 0 where
  pub objects : after_entry world.store.tables specs entry (plain_objects world.store) ≡ plain_objects (with_records world records entry).store
  pub job_ids : Pairs (λ a b. a.id < b.id) records.jobs
  pub epochs : EpochFits world.store.manifest (Some records)
  pub held_once : NodesHeldOnce records.jobs
  pub name_apart : Pairs NameApart records.jobs
  pub trimmed_already : trimmed_jobs records.jobs ≡ records.jobs
  pub agrees : AgreesWith specs entry.event
  pub drawn : AllByRecursion (λ id. IsTrue (contains (drawn_jobs world.store.history) id)) (firsts (named_specs entry.event))
  pub later : (a : ℕ × ℕ) → IsUpTo world.store.history (stored_jobs world.store) a → IsUpTo (world.store.history ++ entry ∷ []) records.jobs a
  pub own : AllByRecursion (IsUpTo (world.store.history ++ entry ∷ []) records.jobs) (attempts_in entry.event)
  pub once : Pairs (λ a b. a ≢ b) (claimed_attempts world.store.history ++ attempts_claimed_in true entry.event)
  pub jobs : AllByRecursion (JobKept merge (with_records world records entry) specs) records.jobs

-- ---- faithful specs

-- Specs stay faithful after a put of records that follow the stored ones.
faithful_with_records : (merge : Operator) (world : World) (specs : ℕ → JobSpec) (records : Records) (entry : Entry) → Body merge world specs → RecordsFollow merge world specs records entry → Faithful (with_records world records entry) specs
faithful_with_records merge world specs records entry b f = record {
  agrees = all_push _ world.store.history entry b.faithful.agrees f.agrees;
  manifests = λ front back e. by front (cut_where front back world.store.history entry e);
}
  where
    after : replayed_objects world.store.tables specs (world.store.history ++ entry ∷ []) (plain_objects fresh_store) ≡ plain_objects (with_records world records entry).store
    after = replayed_push world.store.tables specs world.store.history entry (plain_objects fresh_store) ∙ ap (after_entry world.store.tables specs entry) (sym b.objects) ∙ f.objects

    stored : Matches world.past (plain_objects world.store)
    stored = subst (Matches world.past) (sym b.objects) (b.faithful.manifests world.store.history [] (append-nil world.store.history))

    by : (front : List Entry) → {back : List Entry} → Cut front back world.store.history entry → Matches world.past (replayed_objects world.store.tables specs front (plain_objects fresh_store))
    by front (Whole all) = subst (Matches world.past) (sym (ap (λ h. replayed_objects world.store.tables specs h (plain_objects fresh_store)) all ∙ after)) stored
    by front (Before rest part) = b.faithful.manifests front rest part

pub faithful_before_records : (world : World) (specs : ℕ → JobSpec) (records : Records) (entry : Entry) → Faithful (with_records world records entry) specs → Faithful world specs
faithful_before_records world specs records entry f = record {
  agrees = all_front _ world.store.history (entry ∷ []) f.agrees;
  manifests = λ front back e. f.manifests front (back ++ entry ∷ []) (sym (append_assoc front back (entry ∷ [])) ∙ ap (λ h. h ++ entry ∷ []) e);
}

-- ---- one job

-- What the invariant says of a job does not read the records.
pub fits_with_records : (merge : Operator) (store : Store) (specs : ℕ → JobSpec) (records : Option Records) (job : Job) → JobFits merge store specs job → JobFits merge (record store { records = records }) specs job
fits_with_records merge store specs records job h = record {
  sources = h.sources;
  context = record { there = h.context.there; fits = if_some_to (ContextFits merge store specs job) (ContextFits merge (record store { records = records }) specs job) job.context context h.context.fits };
  outputs = λ compacted. outputs (h.outputs compacted);
  tables = λ active. record { named = (h.tables active).named; sources = (h.tables active).sources };
}
  where
    context : (c : Context) → ContextFits merge store specs job c → ContextFits merge (record store { records = records }) specs job c
    context c f = record { claimed = record { settings = f.claimed.settings; ranges = f.claimed.ranges }; settings = f.settings; cut = f.cut; ranges = f.ranges; tables = f.tables }

    outputs : OutputsFit merge store specs job → OutputsFit merge (record store { records = records }) specs job
    outputs f = record { settings = f.settings; claimed = f.claimed; cut = f.cut; at_most_floor = f.at_most_floor; fit = f.fit; rows = f.rows }

-- ---- the whole

-- `Body` holds after a put of records that takes effect, if the records follow the stored ones.
pub body_with_records : (merge : Operator) (world : World) (specs : ℕ → JobSpec) (records : Records) (line : ℕ) (party : Party) (change : RecordChange) (answer : Answer) → stood answer ≡ true
    → RecordsFollow merge world specs records (record { line = line; party = party; event = PutRecords change; answer = answer }) → Body merge world specs
    → Body merge (with_records world records (record { line = line; party = party; event = PutRecords change; answer = answer })) specs
body_with_records merge world specs records line party change answer took f b =
    let entry : Entry = record { line = line; party = party; event = PutRecords change; answer = answer } in
    record {
      sound = record { tables = b.sound.tables; table_ids = b.sound.table_ids; deleted = b.sound.deleted; root = b.sound.root; prefixes = b.sound.prefixes; job_ids = f.job_ids };
      trees = record { each = b.trees.each; apart = b.trees.apart; epochs = f.epochs };
      held_once = f.held_once;
      pieces = b.pieces;
      flushes = b.flushes;
      reads = b.reads;
      objects = sym (replayed_push world.store.tables specs world.store.history entry (plain_objects fresh_store) ∙ ap (after_entry world.store.tables specs entry) (sym b.objects) ∙ f.objects);
      faithful = faithful_with_records merge world specs records entry b f;
      mentioned = all_push _ world.store.history entry
          (all_to _ _ world.store.history (λ e there old. all_to _ _ (mentioned_in e) (λ id one drawn. drawn_job_grows world.store.history entry id drawn) old) b.mentioned)
          (all_append _ (firsts (named_specs entry.event)) _ (all_to _ _ _ (λ id one drawn. drawn_job_grows world.store.history entry id drawn) f.drawn) (rw took tt));
      trimmed_already = f.trimmed_already;
      up_to = all_push _ world.store.history entry
          (all_to _ _ world.store.history (λ e there old stands. all_to _ _ (attempts_in e.event) (λ a one up. f.later a up) (old stands)) b.up_to)
          (λ stands. f.own);
      planned = all_push _ world.store.history entry
          (all_to _ _ world.store.history (λ e there old. all_to _ _ (planned_attempts e.event) (λ a one up. f.later a up) old) b.planned) tt;
      once = rw (flat_push (λ (e : Entry). attempts_claimed_in (stood e.answer) e.event) world.store.history entry, took) f.once;
      nodes = pieces_grow world.store.history entry world.past world.store.manifest.trees b.nodes;
      name_apart = f.name_apart;
      joined = all_push _ world.store.history entry
          (all_to _ _ world.store.history (λ e there old stands. all_to _ _ _ (λ id one named. named_grows world.store.history entry id named) (old stands)) b.joined)
          (λ stands. tt);
      epochs = let same = flat_push_none (λ (e : Entry). epoch_in (stood e.answer) e.event) world.store.history entry (rw took refl) in record { up_to = rw same b.epochs.up_to; rise = rw same b.epochs.rise };
      past = b.past;
      jobs = f.jobs;
    }
