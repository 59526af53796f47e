-- A put of an epoch into the manifest keeps the invariant: the epoch rises, and all else stays.
use Rattle.std.proofs.Common.{◌≡◌, refl, sym, ◌∙◌, ap, subst, ℕ, ◌+◌, ◌<◌, ◌≤◌, List, [], ◌∷◌, ◌++◌, cond, Bool, true, false, inl, inr, Option, Some, None, arith}
use Rattle.std.specs.Prelude.{IsTrue, find, ◌==◌, flat_map}
use Rattle.std.specs.List.{AllByRecursion}
use Rattle.row_model.specs.Fold.{Operator}
use Rattle.fleet_model.specs.Nodes.{Trees}
use Rattle.fleet_model.specs.Jobs.{Job, contains}
use Rattle.fleet_model.specs.History.{Party, PutManifest, ManifestEpoch, Answer, Entry, stood}
use Rattle.fleet_model.specs.Store.{Manifest, Records}
use Rattle.fleet_model.specs.Handles.{tree_tables}
use Rattle.fleet_model.specs.Invariants.TreesFit.{EpochFits}
use Rattle.step_model.specs.Past.{World}
use Rattle.step_model.specs.Entries.{put_epochs, epoch_in}
use Rattle.step_model.specs.LawfulTables.{was_piece}
use Rattle.step_model.specs.Kept.TablesKept.{IsKnownPiece}
use Rattle.step_model.specs.Kept.JoinsKept.{JoinStands, Gone, NotEmpty, Itself}
use Rattle.step_model.specs.Kept.Facts.{EpochsKept, PastKept}
use Rattle.step_model.specs.Kept.Keeps.{Keeps}
use Rattle.step_laws.proofs.Elements.{IsIn, all_at, all_to, all_push, pairs_push, flat_push, any_front, any_push_no, any_of}
use Rattle.step_laws.proofs.Mute.{IsQuiet}
use Rattle.step_laws.proofs.Grown.{pieces_grow}
use Rattle.step_laws.proofs.Bodies.{whole_of, keeps_of}
use Rattle.step_laws.proofs.ManifestBodies.{with_manifest, body_with_manifest}
use Rattle.step_laws.proofs.ManifestPuts.{StandingPutKeeps}
use Rattle.step_laws.proofs.Quiet.{draws_mute, puts_kept, table_none}

-- ---- the stored manifest is one of the past

found_in : {A : Type 0} (p : A → Bool) (xs : List A) (x : A) → find p xs ≡ Some x → IsIn x xs
found_in {A} p [] x e = absurd (cc e)
found_in {A} p (y ∷ xs) x e = by (p y) (found_in p xs x) e
  where
    same : Some y ≡ Some x → y ≡ x
    same e = cc e

    by : (b : Bool) → (find p xs ≡ Some x → IsIn x xs) → cond b (Some y) (find p xs) ≡ Some x → IsIn x (y ∷ xs)
    by true rest e = inl (same e)
    by false rest e = inr (rest e)

pub stored_in_past : (manifest : Manifest) (past : List Manifest) → PastKept manifest past → IsIn manifest past
stored_in_past manifest past h = found_in (λ (other : Manifest). manifest.version == other.version) past manifest h.last

-- No node of the stored trees holds a table that none of the past held.
pub not_stored : (manifest : Manifest) (past : List Manifest) (table : ℕ) → PastKept manifest past → was_piece past table ≡ false → contains (flat_map tree_tables manifest.trees) table ≡ false
not_stored manifest past table h none = by (contains (flat_map tree_tables manifest.trees) table) refl
  where
    refused : (b : Bool) → b ≡ false → b ≡ true → ⊥
    refused true e f = absurd (cc e)
    refused false e f = absurd (cc f)

    by : (b : Bool) → contains (flat_map tree_tables manifest.trees) table ≡ b → b ≡ false
    by true e = absurd (refused (was_piece past table) none (any_of (λ (m : Manifest). contains (flat_map tree_tables m.trees) table) past manifest (stored_in_past manifest past h) e))
    by false e = refl

pub piece_stays : (past : List Manifest) (new : Manifest) (table : ℕ) → IsTrue (was_piece past table) → IsTrue (was_piece (past ++ new ∷ []) table)
piece_stays past new table h = any_front (λ (m : Manifest). contains (flat_map tree_tables m.trees) table) past (new ∷ []) h

pub no_new_piece : (past : List Manifest) (new : Manifest) (table : ℕ) → contains (flat_map tree_tables new.trees) table ≡ false → was_piece past table ≡ false → was_piece (past ++ new ∷ []) table ≡ false
no_new_piece past new table none h = any_push_no (λ (m : Manifest). contains (flat_map tree_tables m.trees) table) past new none ∙ h

-- A join that stands does so where the trees are the same.
pub joined_on : (past : List Manifest) (new : Manifest) (trees : Trees) (job : Job) → JoinStands past trees job → JoinStands (past ++ new ∷ []) trees job
joined_on past new trees job (Gone table there gone) = Gone table there (piece_stays past new table gone.0, gone.1)
joined_on past new trees job (NotEmpty run there other none some) = NotEmpty run there other none some
joined_on past new trees job (Itself run sources destination none empty) = Itself run sources destination none empty

-- ---- the law

quiet_epoch : (took : Bool) (epoch : ℕ) → IsQuiet took (PutManifest (ManifestEpoch epoch))
quiet_epoch true epoch = record { steps = refl; attempts = λ took. refl; claims = refl; beats = λ job. refl; beaten = λ job. refl; joins = λ job. refl; joined = λ took. refl }
quiet_epoch false epoch = record { steps = refl; attempts = λ took. refl; claims = refl; beats = λ job. refl; beaten = λ job. refl; joins = λ job. refl; joined = λ took. refl }

pub epoch_rises : (manifest : Manifest) (records : Option Records) (value : Manifest) → manifest.epoch ≤ value.epoch → EpochFits manifest records → EpochFits value records
epoch_rises manifest None value rises h = tt
epoch_rises manifest (Some records) value rises h = omega (arith, rises, h)

epochs_push : (old epoch : ℕ) (history : List Entry) (entry : Entry) → entry.event ≡ PutManifest (ManifestEpoch epoch) → stood entry.answer ≡ true → old < epoch → EpochsKept old history → EpochsKept epoch (history ++ entry ∷ [])
epochs_push old epoch history entry is took above h =
    let puts : put_epochs (history ++ entry ∷ []) ≡ put_epochs history ++ epoch ∷ [] = flat_push (λ (e : Entry). epoch_in (stood e.answer) e.event) history entry ∙ ap (λ epochs. put_epochs history ++ epochs) (rw (took, is) refl) in
    record {
      up_to = rw puts (all_push _ (put_epochs history) epoch (all_to _ _ (put_epochs history) (λ put there low. omega (arith, low, above)) h.up_to) (omega arith));
      rise = rw puts (pairs_push _ (put_epochs history) epoch h.rise (all_to _ _ (put_epochs history) (λ put there low. omega (arith, low, above)) h.up_to));
    }

-- A put of a greater epoch into the manifest that takes effect keeps the invariant.
epoch_by : (merge : Operator) (epoch line : ℕ) (party : Party) (answer : Answer) (world : World) → stood answer ≡ true → Keeps merge world → world.store.manifest.epoch < epoch
    → Keeps merge (with_manifest world (record world.store.manifest { version = world.store.manifest.version + 1; epoch = epoch }) (record { line = line; party = party; event = PutManifest (ManifestEpoch epoch); answer = answer }))
epoch_by merge epoch line party answer world took k above =
    let entry : Entry = record { line = line; party = party; event = PutManifest (ManifestEpoch epoch); answer = answer } in
    let manifest : Manifest = record world.store.manifest { version = world.store.manifest.version + 1; epoch = epoch } in
    let w = whole_of merge world k in
    let b = w.body in
    let specs = k.stored.replay.specs in
    let nodes = pieces_grow world.store.history entry world.past world.store.manifest.trees b.nodes in
    keeps_of merge (with_manifest world manifest entry) specs (record {
      body = body_with_manifest merge world specs manifest entry (record { quiet = quiet_epoch (stood answer) epoch; unnamed = refl; unplanned = refl })
          (record {
            next = refl;
            objects = rw took refl;
            root = b.sound.root;
            prefixes = b.sound.prefixes;
            trees = record { each = b.trees.each; apart = b.trees.apart; epochs = epoch_rises world.store.manifest world.store.records manifest (omega (arith, above)) b.trees.epochs };
            pieces = b.pieces;
            flushes = b.flushes;
            reads = b.reads;
            nodes = record {
              pieces = all_push _ world.past manifest nodes.pieces (all_at (λ (m : Manifest). AllByRecursion (IsKnownPiece (world.store.history ++ entry ∷ [])) (flat_map tree_tables m.trees)) world.past world.store.manifest nodes.pieces (stored_in_past world.store.manifest world.past b.past));
              flushes = nodes.flushes;
              watermarks = nodes.watermarks;
              apart = nodes.apart;
            };
            epochs = epochs_push world.store.manifest.epoch epoch world.store.history entry refl took above b.epochs;
          })
          (λ job there kept. record {
            stand = λ stand. stand;
            fit = λ settings holds stand fit. record { floor = fit.floor; cut = fit.cut; tick = fit.tick; last_run = fit.last_run };
            floor = omega arith;
            unused = λ table none active in_job. no_new_piece world.past manifest table (not_stored world.store.manifest world.past table b.past none) none;
            joined = λ stand. joined_on world.past manifest world.store.manifest.trees job stand;
          }) b;
      draws = draws_mute world.store.jobs_drawn world.store.tables_drawn world.store.history entry refl refl w.draws;
      puts = puts_kept world.store.history entry world.store.tables (table_none (stood answer) entry.event refl) (rw took tt) w.puts;
    })

pub epochs_keep : (merge : Operator) (epoch : ℕ) → StandingPutKeeps merge (ManifestEpoch epoch)
epochs_keep merge epoch line party answer world value took k fits =
    subst (λ (v : Manifest). Keeps merge (with_manifest world (record v { version = world.store.manifest.version + 1 }) (record { line = line; party = party; event = PutManifest (ManifestEpoch epoch); answer = answer }))) (sym fits.makes)
    (epoch_by merge epoch line party answer world took k fits.above)
