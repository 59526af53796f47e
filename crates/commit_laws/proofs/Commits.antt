-- A lawful commit keeps the invariant and the facts.
use Rattle.std.proofs.Common.{◌≡◌, refl, sym, ◌∙◌, ap, subst, ℕ, ◌+◌, List, [], ◌∷◌, ◌++◌, cond, Bool, true, false, ℤ, arith}
use Rattle.std.specs.Prelude.{IsTrue, ◌&&◌, map, option_map, flat_map, int_le, pos, negsuc}
use Rattle.std.specs.List.{AllByRecursion}
use Rattle.std.proofs.lemmas.Bool.{le-leb}
use Rattle.row_model.specs.Fold.{Operator, IsLawful}
use Rattle.fleet_model.specs.Nodes.{Node, Segment, names}
use Rattle.fleet_model.specs.Jobs.{JobSpec, contains}
use Rattle.fleet_model.specs.Handles.{tree_tables}
use Rattle.fleet_model.specs.History.{Party, Entry, Answer, Step, PutManifest, Commit, stood}
use Rattle.fleet_model.specs.Work.Records.{firsts}
use Rattle.fleet_model.specs.Store.{Manifest, stored_jobs, fresh_store, AreHeld, WerePut}
use Rattle.fleet_model.specs.Past.Replay.{outputs_in, named_specs, after_event, after_entry, replayed_objects, plain_objects, plain_manifest, plain_records}
use Rattle.fleet_model.specs.Trees.{job_of}
use Rattle.fleet_model.specs.Invariants.ReadsFit.{TreeKeepsReads}
use Rattle.step_model.specs.Past.{World}
use Rattle.step_model.specs.Entries.{drawn_jobs, mentioned_in, planned_attempts, attempts_in, attempts_claimed_in, epoch_in, was_named}
use Rattle.step_model.specs.Kept.Faithful.{Faithful}
use Rattle.step_model.specs.LawfulManifests.{IsKnownTo, StepsFit}
use Rattle.step_model.specs.Kept.TablesKept.{IsKnownPiece, IsFlush, IsPassed}
use Rattle.step_model.specs.Kept.JoinsKept.{join_of}
use Rattle.step_model.specs.Kept.Keeps.{Keeps}
use Rattle.step_laws.proofs.Elements.{IsIn, in_front, all_at, all_from, all_to, all_push, all_flat, all_unflat, any_element, contains_in, in_contains, flat_push_none, Cut, Whole, Before, cut_where}
use Rattle.step_laws.proofs.Replays.{replayed_push}
use Rattle.step_laws.proofs.Grown.{named_grows, drawn_job_grows, up_to_grows, pieces_grow, piece_grows, flush_grows, passed_grows}
use Rattle.step_laws.proofs.Bodies.{JobKept, Body, whole_of, keeps_of}
use Rattle.step_laws.proofs.MuteBodies.{Matches}
use Rattle.step_laws.proofs.Respecs.{body_by, drew_drawn}
use Rattle.step_laws.proofs.ManifestBodies.{with_manifest, past_grows, matches_stay}
use Rattle.step_laws.proofs.ManifestEpochs.{stored_in_past, not_stored, epoch_rises}
use Rattle.step_laws.proofs.ManifestPuts.{StandingPutKeeps, manifest_put_keeps}
use Rattle.step_laws.proofs.FlushTrees.{rising_from, rising_to}
use Rattle.step_laws.proofs.FlushFollows.{reads_fewer}
use Rattle.step_laws.proofs.Quiet.{draws_mute, puts_kept, table_none}
use Rattle.commit_laws.specs.CommitLaws.{CommitsKeep}
use Rattle.commit_laws.proofs.Stretches.{never_both}
use Rattle.commit_laws.proofs.TreeReads.{with_horizon}
use Rattle.commit_laws.proofs.JobSteps.{JobHolds}
use Rattle.commit_laws.proofs.Midway.{Midway, found_job, KnownCase, Stored, New, known_case}
use Rattle.commit_laws.proofs.CommitSteps.{steps_keep, joins_compacted, IsCompacted, outputs_plain, stepped_same}
use Rattle.commit_laws.proofs.CommitSpecs.{with_own, faithful_own, own_spec}
use Rattle.commit_laws.proofs.CommitJobs.{entry_of, trees_of, horizon_of, manifest_of, CommitCase, job_kept}

-- ---- the stored trees, before the first step

refused : (xs : List ℕ) (t : ℕ) → contains xs t ≡ false → IsIn t xs → ⊥
refused xs t e there = never_both (contains xs t) (in_contains xs t there) e

-- The stored trees have what is kept in the midst of a commit, before its first step.
pub start : (merge : Operator) (world : World) (specs : ℕ → JobSpec) → Body merge world specs → Midway merge world world.store.manifest.trees world.store.manifest.horizon []
start merge world specs b = record {
  kept = record {
    root = b.sound.root;
    rise = rising_from world.store.manifest.trees b.sound.prefixes;
    each = all_from _ world.store.manifest.trees (λ s there. record {
      tree = all_at _ world.store.manifest.trees s b.trees.each there;
      pieces = all_at (λ (x : Segment). AllByRecursion (λ (node : Node). AreHeld world.store node.pieces) x.tree) world.store.manifest.trees s b.pieces there;
      flushes = all_at (λ (x : Segment). AllByRecursion (λ (node : Node). WerePut world.store node.flushes) x.tree) world.store.manifest.trees s b.flushes there;
      reads = all_at (λ (x : Segment). TreeKeepsReads merge world.store x.tree) world.store.manifest.trees s b.reads there;
      known = all_unflat (IsKnownPiece world.store.history) (λ (node : Node). node.pieces) s.tree (all_at (λ (x : Segment). AllByRecursion (IsKnownPiece world.store.history) (tree_tables x)) world.store.manifest.trees s known there);
      flushed = all_at (λ (x : Segment). AllByRecursion (λ (node : Node). IsFlush world.store.history node node.name) x.tree) world.store.manifest.trees s b.nodes.flushes there;
      passed = all_at (λ (x : Segment). IsPassed world.store.history (names x.tree) x.watermark) world.store.manifest.trees s b.nodes.watermarks there;
    });
    apart = b.trees.apart;
    tables = b.nodes.apart;
  };
  jobs = all_to (JobKept merge world specs) (JobHolds world world.store.manifest.trees []) (stored_jobs world.store) (λ job there kept. record {
    stand = λ holds undone stand. stand;
    oldest = λ holds undone stand last. last;
    unused = λ t none active undone in_job held. refused (flat_map tree_tables world.store.manifest.trees) t (not_stored world.store.manifest world.past t b.past none) held;
    again = λ compacted done. kept.facts.stand compacted done;
  }) b.jobs;
}
  where
    known : AllByRecursion (λ (x : Segment). AllByRecursion (IsKnownPiece world.store.history) (tree_tables x)) world.store.manifest.trees
    known = all_unflat (IsKnownPiece world.store.history) tree_tables world.store.manifest.trees
        (all_at (λ (m : Manifest). AllByRecursion (IsKnownPiece world.store.history) (flat_map tree_tables m.trees)) world.past world.store.manifest b.nodes.pieces (stored_in_past world.store.manifest world.past b.past))

-- ---- the replay

objects_after : (merge : Operator) (world : World) (specs own : ℕ → JobSpec) (line : ℕ) (party : Party) (steps : List Step) (answer : Answer) → stood answer ≡ true → CommitCase merge world specs own party steps
    → after_entry world.store.tables specs (entry_of line party steps answer) (plain_objects world.store) ≡ plain_objects (with_manifest world (manifest_of world own steps) (entry_of line party steps answer)).store
objects_after merge world specs own line party steps answer took c =
    let trees = stepped_same world.store.tables (λ job. (specs job, outputs_in (option_map plain_records world.store.records) job)) (λ id. (own id, outputs_in world.store.records id)) steps world.store.manifest.trees
    (all_to _ _ steps (λ step there same. both (specs (job_of step)) (own (job_of step)) (outputs_in (option_map plain_records world.store.records) (job_of step)) (outputs_in world.store.records (job_of step)) same (outputs_plain world.store.records (job_of step))) c.same) in
    ap (λ b. cond b (after_event world.store.tables specs (PutManifest (Commit steps)) (plain_objects world.store)) (plain_objects world.store)) took
    ∙ (λ i. record { manifest = record (plain_manifest world.store.manifest) { version = world.store.manifest.version + 1; trees = trees i }; records = option_map plain_records world.store.records })
  where
    both : (a b : JobSpec) → (xs ys : List ℕ) → a ≡ b → xs ≡ ys → ◌≡◌ {A = JobSpec × List ℕ} (a, xs) (b, ys)
    both a b xs ys e f = λ i. (e i, f i)

-- Specs by which a commit is replayed stay faithful after it takes effect.
pub faithful_after : (merge : Operator) (world : World) (specs own : ℕ → JobSpec) (line : ℕ) (party : Party) (steps : List Step) (answer : Answer) → stood answer ≡ true → CommitCase merge world specs own party steps
    → Faithful (with_manifest world (manifest_of world own steps) (entry_of line party steps answer)) specs
faithful_after merge world specs own line party steps answer took c = record {
  agrees = all_push _ world.store.history (entry_of line party steps answer) c.body.faithful.agrees tt;
  manifests = λ front back e. by front (cut_where front back world.store.history (entry_of line party steps answer) e);
}
  where
    after : replayed_objects world.store.tables specs (world.store.history ++ entry_of line party steps answer ∷ []) (plain_objects fresh_store) ≡ plain_objects (with_manifest world (manifest_of world own steps) (entry_of line party steps answer)).store
    after = replayed_push world.store.tables specs world.store.history (entry_of line party steps answer) (plain_objects fresh_store) ∙ ap (after_entry world.store.tables specs (entry_of line party steps answer)) (sym c.body.objects)
        ∙ objects_after merge world specs own line party steps answer took c

    by : (front : List Entry) → {back : List Entry} → Cut front back world.store.history (entry_of line party steps answer) → Matches (world.past ++ manifest_of world own steps ∷ []) (replayed_objects world.store.tables specs front (plain_objects fresh_store))
    by front (Whole all) =
        subst (Matches (world.past ++ manifest_of world own steps ∷ [])) (sym (ap (λ h. replayed_objects world.store.tables specs h (plain_objects fresh_store)) all ∙ after))
        (ap (option_map plain_manifest) (past_grows world.store.manifest (manifest_of world own steps) world.past refl c.body.past).last)
    by front (Before rest part) = matches_stay world.past (manifest_of world own steps) (replayed_objects world.store.tables specs front (plain_objects fresh_store)) (c.body.faithful.manifests front rest part)

-- ---- the jobs that the commit mentions

was_mentioned : (merge : Operator) (world : World) (specs : ℕ → JobSpec) → Body merge world specs → (id : ℕ) → IsTrue (was_named world.store.history id) → IsTrue (contains (drawn_jobs world.store.history) id)
was_mentioned merge world specs b id named =
    let found = any_element (λ (e : Entry). contains (firsts (named_specs e.event)) id && stood e.answer) world.store.history named in
    all_at (λ n. IsTrue (contains (drawn_jobs world.store.history) n)) (mentioned_in found.element) id
    (all_at (λ (e : Entry). AllByRecursion (λ n. IsTrue (contains (drawn_jobs world.store.history) n)) (mentioned_in e)) world.store.history found.element b.mentioned found.there)
    (in_front id (firsts (named_specs found.element.event)) _ (contains_in (firsts (named_specs found.element.event)) id (first (contains (firsts (named_specs found.element.event)) id) (stood found.element.answer) found.passes)))
  where
    first : (a b : Bool) → (a && b) ≡ true → IsTrue a
    first true b e = refl
    first false b e = absurd (cc e)

known_drawn : (merge : Operator) (world : World) (specs own : ℕ → JobSpec) (party : Party) (id : ℕ) → Body merge world specs → IsKnownTo party world own id → IsTrue (contains (drawn_jobs world.store.history) id)
known_drawn merge world specs own party id b known = by (known_case party world own id known)
  where
    by : KnownCase party world own id → IsTrue (contains (drawn_jobs world.store.history) id)
    by (Stored job there found same is) = subst (λ n. IsTrue (contains (drawn_jobs world.store.history) n)) (sym same) (was_mentioned merge world specs b job.id (all_at (JobKept merge world specs) (stored_jobs world.store) job b.jobs there).facts.named)
    by (New none drew unmentioned) = drew_drawn party world.store.history id drew

all_mapped : (P : ℕ → Type 0) (steps : List Step) → AllByRecursion (λ step. P (job_of step)) steps → AllByRecursion P (map job_of steps)
all_mapped P [] h = tt
all_mapped P (step ∷ steps) h = (h.0, all_mapped P steps h.1)

compacted_named : (merge : Operator) (world : World) (specs : ℕ → JobSpec) (id : ℕ) → Body merge world specs → IsCompacted world id → IsTrue (was_named world.store.history id)
compacted_named merge world specs id b f =
    let found = found_job id (stored_jobs world.store) f.0 f.1.0 in
    subst (λ n. IsTrue (was_named world.store.history n)) (sym found.1) (all_at (JobKept merge world specs) (stored_jobs world.store) f.0 b.jobs found.0).facts.named

-- ---- the whole

never_less : (t : ℤ) → int_le t t ≡ true
never_less (pos n) = le-leb n n (omega arith)
never_less (negsuc n) = le-leb n n (omega arith)

-- `Body` holds after a commit that takes effect.
commit_body : (merge : Operator) (world : World) (specs own : ℕ → JobSpec) (line : ℕ) (party : Party) (steps : List Step) (answer : Answer) → stood answer ≡ true → CommitCase merge world specs own party steps
    → Body merge (with_manifest world (manifest_of world own steps) (entry_of line party steps answer)) specs
commit_body merge world specs own line party steps answer took c =
    let b = c.body in
    let entry = entry_of line party steps answer in
    let manifest = manifest_of world own steps in
    let trees = trees_of world own steps in
    let kept = c.midway.kept in
    let grown = pieces_grow world.store.history entry world.past world.store.manifest.trees b.nodes in
    record {
      sound = record { tables = b.sound.tables; table_ids = b.sound.table_ids; deleted = b.sound.deleted; root = kept.root; prefixes = rising_to trees kept.rise; job_ids = b.sound.job_ids };
      trees = record {
        each = all_to _ _ trees (λ s there fits. fits.tree) kept.each;
        apart = kept.apart;
        epochs = epoch_rises world.store.manifest world.store.records manifest (omega arith) b.trees.epochs;
      };
      held_once = b.held_once;
      pieces = all_to _ _ trees (λ s there fits. fits.pieces) kept.each;
      flushes = all_to _ _ trees (λ s there fits. fits.flushes) kept.each;
      reads = all_to _ _ trees (λ s there fits. reads_fewer merge (with_horizon world.store (horizon_of world steps)) manifest s.tree refl (never_less world.store.manifest.tick) fits.reads) kept.each;
      objects = sym (replayed_push world.store.tables specs world.store.history entry (plain_objects fresh_store) ∙ ap (after_entry world.store.tables specs entry) (sym b.objects) ∙ objects_after merge world specs own line party steps answer took c);
      faithful = faithful_after merge world specs own line party steps answer took c;
      mentioned = all_push _ world.store.history entry
          (all_to _ _ world.store.history (λ e there old. all_to _ _ (mentioned_in e) (λ id one drawn. drawn_job_grows world.store.history entry id drawn) old) b.mentioned)
          (rw took (all_mapped _ steps (all_to _ _ steps (λ step there known. drawn_job_grows world.store.history entry (job_of step) (known_drawn merge world specs own party (job_of step) b known)) c.known)));
      trimmed_already = b.trimmed_already;
      up_to = all_push _ world.store.history entry
          (all_to _ _ world.store.history (λ e there old stands. all_to _ _ (attempts_in e.event) (λ a one up. up_to_grows world.store.history entry (stored_jobs world.store) a up) (old stands)) b.up_to)
          (λ stands. tt);
      planned = all_push _ world.store.history entry
          (all_to _ _ world.store.history (λ e there old. all_to _ _ (planned_attempts e.event) (λ a one up. up_to_grows world.store.history entry (stored_jobs world.store) a up) old) b.planned)
          tt;
      once = rw (flat_push_none (λ (e : Entry). attempts_claimed_in (stood e.answer) e.event) world.store.history entry (rw took refl)) b.once;
      nodes = record {
        pieces = all_push _ world.past manifest grown.pieces (all_flat _ tree_tables trees (all_to _ _ trees (λ s there fits. all_flat _ (λ (node : Node). node.pieces) s.tree
            (all_to _ _ s.tree (λ node one known. all_to _ _ node.pieces (λ t other is. piece_grows world.store.history entry t is) known) fits.known)) kept.each));
        flushes = all_to _ _ trees (λ s there fits. all_to _ _ s.tree (λ node one flush. flush_grows world.store.history entry node node.name flush) fits.flushed) kept.each;
        watermarks = all_to _ _ trees (λ s there fits. passed_grows world.store.history entry (names s.tree) s.watermark fits.passed) kept.each;
        apart = kept.tables;
      };
      name_apart = b.name_apart;
      joined = all_push _ world.store.history entry
          (all_to _ _ world.store.history (λ e there old stands. all_to _ _ _ (λ id one named. named_grows world.store.history entry id named) (old stands)) b.joined)
          (λ stands. all_to _ _ (flat_map join_of steps) (λ id one is. named_grows world.store.history entry id (compacted_named merge world specs id b is)) (joins_compacted world own world.store.manifest.trees [] steps c.each));
      epochs = let same = flat_push_none (λ (e : Entry). epoch_in (stood e.answer) e.event) world.store.history entry (rw took refl) in record { up_to = rw same b.epochs.up_to; rise = rw same b.epochs.rise };
      past = past_grows world.store.manifest manifest world.past refl b.past;
      jobs = all_to _ _ (stored_jobs world.store) (λ job there kept. job_kept merge world specs own line party steps answer took c job there kept) b.jobs;
    }

-- ---- the law

-- What the steps of a commit keep, by specs that replay it too.
pub case_of : (merge : Operator) (world : World) (own : ℕ → JobSpec) (party : Party) (steps : List Step) → IsLawful merge → (k : Keeps merge world) → AllByRecursion (λ step. IsKnownTo party world own (job_of step)) steps
    → StepsFit world own world.store.manifest.trees [] steps → CommitCase merge world (with_own world.store.history k.stored.replay.specs own) own party steps
case_of merge world own party steps lawful k known fits =
    let w = whole_of merge world k in
    let specs = with_own world.store.history k.stored.replay.specs own in
    let faithful = faithful_own world k.stored.replay.specs own w.body.faithful in
    let b = body_by merge world k.stored.replay.specs specs w.body faithful in
    record {
      body = b;
      known = known;
      same = all_to _ _ steps (λ step there is. own_spec merge world party k.stored.replay.specs own (job_of step) w.body faithful is) known;
      each = fits;
      midway = steps_keep merge world party specs own world.store.manifest.trees world.store.manifest.horizon [] steps lawful b known fits (start merge world specs b);
    }

-- A commit that takes effect keeps the invariant under a lawful operator, if its steps fit by specs that are known.
commit_by : (merge : Operator) (world : World) (own : ℕ → JobSpec) (line : ℕ) (party : Party) (steps : List Step) (answer : Answer) → IsLawful merge → stood answer ≡ true → (k : Keeps merge world) → AllByRecursion (λ step. IsKnownTo party world own (job_of step)) steps
    → StepsFit world own world.store.manifest.trees [] steps → Keeps merge (with_manifest world (manifest_of world own steps) (entry_of line party steps answer))
commit_by merge world own line party steps answer lawful took k known fits =
    let w = whole_of merge world k in
    let entry = entry_of line party steps answer in
    let specs = with_own world.store.history k.stored.replay.specs own in
    keeps_of merge (with_manifest world (manifest_of world own steps) entry) specs (record {
      body = commit_body merge world specs own line party steps answer took (case_of merge world own party steps lawful k known fits);
      draws = draws_mute world.store.jobs_drawn world.store.tables_drawn world.store.history entry refl refl w.draws;
      puts = puts_kept world.store.history entry world.store.tables (table_none (stood answer) entry.event refl) (rw took tt) w.puts;
    })

standing : (merge : Operator) → IsLawful merge → (steps : List Step) → StandingPutKeeps merge (Commit steps)
standing merge lawful steps line party answer world value took k fits =
    subst (λ (v : Manifest). Keeps merge (with_manifest world (record v { version = world.store.manifest.version + 1 }) (entry_of line party steps answer))) (sym fits.makes)
    (commit_by merge world fits.specs line party steps answer lawful took k fits.known fits.each)

pub commits_keep : (merge : Operator) → IsLawful merge → CommitsKeep merge
commits_keep merge lawful steps = manifest_put_keeps merge (Commit steps) (standing merge lawful steps)
