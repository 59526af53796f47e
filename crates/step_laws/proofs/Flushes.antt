-- A flush keeps the invariant: its node is newer than all others of its tree, and floor and tick stay or rise.
use Rattle.std.proofs.Common.{◌≡◌, refl, sym, subst, ℕ, ◌+◌, ◌≤◌, List, [], ◌∷◌, ◌++◌, cond, Bool, true, false, inl, inr, Option, Some, None, ℤ, arith}
use Rattle.std.specs.Prelude.{IsTrue, flat_map, find, not, int_le, ◌==◌, ◌&&◌, ◌||◌}
use Rattle.std.specs.List.{AllByRecursion, list_all}
use Rattle.std.proofs.lemmas.Bool.Decides.{Decides-eqb}
use Rattle.row_model.specs.Rows.{Row}
use Rattle.row_model.specs.Fold.{Operator}
use Rattle.fleet_model.specs.Nodes.{Tables, table_rows, rows_or_none, is_among, NodeName, L0, Run, name_eq, Node, Tree, Segment, Trees, names, names_contain, segment_at, tree_at, last_seq_of}
use Rattle.fleet_model.specs.Jobs.{JobSpec, Job, contains}
use Rattle.fleet_model.specs.History.{Party, PutManifest, Flush, Answer, Entry, stood}
use Rattle.fleet_model.specs.Store.{Manifest, is_held, AreHeld, WerePut}
use Rattle.fleet_model.specs.Handles.{tree_tables, job_tables}
use Rattle.fleet_model.specs.Trees.{flushed_trees, flushed_on, empty_segment}
use Rattle.fleet_model.specs.Tracker.{Tracked, tracked_after, least_seq_of}
use Rattle.fleet_model.specs.Invariants.TreesFit.{IsTable, IsTree, NoneShared}
use Rattle.fleet_model.specs.Invariants.JobsFit.{SourcesStand}
use Rattle.fleet_model.specs.Invariants.ReadsFit.{TreeKeepsReads}
use Rattle.step_model.specs.Past.{World}
use Rattle.step_model.specs.Entries.{was_flushed, is_flush_of, epoch_in}
use Rattle.step_model.specs.LawfulManifests.{IsAbove}
use Rattle.step_model.specs.LawfulTables.{was_piece}
use Rattle.step_model.specs.Kept.TablesKept.{IsKnownPiece, IsFlush, IsPassed, AreApart}
use Rattle.step_model.specs.Kept.Keeps.{Keeps}
use Rattle.step_laws.proofs.Elements.{IsIn, all_at, all_from, all_to, all_push, all_flat, all_unflat, any_element, any_push_yes, contains_in, is_itself, flat_push_none}
use Rattle.step_laws.proofs.Mute.{IsQuiet}
use Rattle.step_laws.proofs.Grown.{pieces_grow, flushed_grows, passed_grows}
use Rattle.step_laws.proofs.Bodies.{Body, JobKept, whole_of, keeps_of}
use Rattle.step_laws.proofs.Held.{held_put}
use Rattle.step_laws.proofs.OwnTables.{apart_from, apart_at}
use Rattle.step_laws.proofs.PollJobs.{node_flushed, stretch_in, tree_has}
use Rattle.step_laws.proofs.ManifestBodies.{with_manifest, Follows, JobFollows, body_with_manifest}
use Rattle.step_laws.proofs.ManifestPuts.{StandingPutKeeps}
use Rattle.step_laws.proofs.ManifestEpochs.{no_new_piece, not_stored, stored_in_past, epoch_rises}
use Rattle.step_laws.proofs.Deletions.{in_flat}
use Rattle.row_laws.proofs.RetentionReads.{int_le_trans}
use Rattle.step_laws.proofs.FlushTrees.{rising_from, rising_to, rising_flushed, root_flushed, each_flushed, pairs_flushed, new_node}
use Rattle.step_laws.proofs.FlushNodes.{Differ, known_differs, source_differs, not_in_flushed, refused}
use Rattle.step_laws.proofs.FlushFollows.{stand_on, oldest_on, joined_flushed, tree_on, found_segment, reads_fewer, reads_new}
use Rattle.step_laws.proofs.Quiet.{draws_mute, puts_kept, table_none}

quiet_flush : (took : Bool) (name : ℕ) (segment : List ℕ) (floor : ℕ) (tick : ℤ) → IsQuiet took (PutManifest (Flush name segment floor tick))
quiet_flush true name segment floor tick = record { steps = refl; attempts = λ took. refl; claims = refl; beats = λ job. refl; beaten = λ job. refl; joins = λ job. refl; joined = λ took. refl }
quiet_flush false name segment floor tick = record { steps = refl; attempts = λ took. refl; claims = refl; beats = λ job. refl; beaten = λ job. refl; joins = λ job. refl; joined = λ took. refl }

-- The rows of a table that was put are a table.
pub table_of : (tables : Tables) (name : ℕ) → AllByRecursion (λ table. IsTable table.1) tables → IsTrue (is_among tables name) → IsTable (table_rows tables name)
table_of [] name h put = absurd (cc put)
table_of (table ∷ tables) name h put = by (table.0 == name) (table_of tables name h.1) put
  where
    by : (b : Bool) → (IsTrue (is_among tables name) → IsTable (table_rows tables name)) → IsTrue (b || is_among tables name) → IsTable (rows_or_none (cond b (Some table) (find (λ held. held.0 == name) tables)))
    by true rest put = h.0
    by false rest put = rest put

-- ---- names

-- No stored tree has a node of the new name.
no_name : (history : List Entry) (name : ℕ) (tree : Tree) → was_flushed history name ≡ false → AllByRecursion (λ node. IsFlush history node node.name) tree → names_contain (names tree) (L0 name) ≡ false
no_name history name tree once h = by (names_contain (names tree) (L0 name)) refl
  where
    by : (b : Bool) → names_contain (names tree) (L0 name) ≡ b → b ≡ false
    by true e = absurd (refused (was_flushed history name) once (node_flushed history tree (L0 name) h e))
    by false e = refl

not_of : (b : Bool) → b ≡ false → IsTrue (not b)
not_of true e = absurd (cc e)
not_of false e = refl

-- A tree without the name shares none with a tree that has the new node too.
shared_first : (a b : Segment) (name : ℕ) (rows : List Row) → names_contain (names b.tree) (L0 name) ≡ false → NoneShared a b → NoneShared (flushed_on name rows a) b
shared_first a b name rows none h = rw (not_of (names_contain (names b.tree) (L0 name)) none) h

-- A tree shares no node with one that got a new flush, if it shared none before and lacks the name of the flush.
shared_second : (a b : Segment) (name : ℕ) (rows : List Row) → names_contain (names a.tree) (L0 name) ≡ false → NoneShared a b → NoneShared a (flushed_on name rows b)
shared_second a b name rows none h = each (names a.tree) none h
  where
    first : (x : NodeName) → (xs : List NodeName) → cond (name_eq x (L0 name)) true (names_contain xs (L0 name)) ≡ false → name_eq (L0 name) x ≡ false
    first (L0 n) xs e = by (n == name) refl e
      where
        by : (c : Bool) → (n == name) ≡ c → cond c true (names_contain xs (L0 name)) ≡ false → (name == n) ≡ false
        by true f e = absurd (cc e)
        by false f e = turned (name == n) refl
          where
            turned : (d : Bool) → (name == n) ≡ d → d ≡ false
            turned true g = absurd (cc (f, (Decides-eqb n name).1 (sym ((Decides-eqb name n).0 g))))
            turned false g = refl
    first (Run n) xs e = refl

    rest : (x : NodeName) → (xs : List NodeName) → cond (name_eq x (L0 name)) true (names_contain xs (L0 name)) ≡ false → names_contain xs (L0 name) ≡ false
    rest x xs e = by (name_eq x (L0 name)) e
      where
        by : (c : Bool) → cond c true (names_contain xs (L0 name)) ≡ false → names_contain xs (L0 name) ≡ false
        by true e = absurd (cc e)
        by false e = e

    each : (xs : List NodeName) → names_contain xs (L0 name) ≡ false → IsTrue (list_all (λ x. not (names_contain (names b.tree) x)) xs) → IsTrue (list_all (λ x. not (cond (name_eq (L0 name) x) true (names_contain (names b.tree) x))) xs)
    each [] e k = refl
    each (x ∷ xs) e k = by (names_contain (names b.tree) x) refl k (each xs (rest x xs e))
      where
        by : (c : Bool) → names_contain (names b.tree) x ≡ c → IsTrue (not c && list_all (λ y. not (names_contain (names b.tree) y)) xs)
            → (IsTrue (list_all (λ y. not (names_contain (names b.tree) y)) xs) → IsTrue (list_all (λ y. not (cond (name_eq (L0 name) y) true (names_contain (names b.tree) y))) xs))
            → IsTrue (not (cond (name_eq (L0 name) x) true (names_contain (names b.tree) x)) && list_all (λ y. not (cond (name_eq (L0 name) y) true (names_contain (names b.tree) y))) xs)
        by true f k more = absurd (cc k)
        by false f k more = rw (first x xs e, f) (more k)

none_shared_empty : (xs : List NodeName) → IsTrue (list_all (λ x. not (names_contain [] x)) xs)
none_shared_empty [] = refl
none_shared_empty (x ∷ xs) = none_shared_empty xs

-- ---- the law

-- What the flush brings, out of what is kept and asked.
pub record FlushCase (merge : Operator) (world : World) (specs : ℕ → JobSpec) (name : ℕ) (segment : List ℕ) (floor : ℕ) (tick : ℤ) : Type 0 where
  pub body : Body merge world specs
  pub put : IsTrue (is_among world.store.tables name)
  pub held : IsTrue (is_held world.store name)
  pub once : was_flushed world.store.history name ≡ false
  pub differs : (id : ℕ) → IsKnownPiece world.store.history id → name ≡ id → ⊥
  pub newer : AllByRecursion (λ r. IsAbove (last_seq_of (segment_at segment world.store.manifest.trees)) r.seq) (table_rows world.store.tables name)
  pub floor_stays : world.store.manifest.floor ≤ floor
  pub tick_stays : IsTrue (int_le world.store.manifest.tick tick)

-- A table that a node holds or held is known.
piece_known : (merge : Operator) (world : World) (specs : ℕ → JobSpec) (t : ℕ) → Body merge world specs → IsTrue (was_piece world.past t) → IsKnownPiece world.store.history t
piece_known merge world specs t b was =
    let found = any_element (λ (m : Manifest). contains (flat_map tree_tables m.trees) t) world.past was in
    all_at _ (flat_map tree_tables found.element.trees) t (all_at (λ (m : Manifest). AllByRecursion (IsKnownPiece world.store.history) (flat_map tree_tables m.trees)) world.past found.element b.nodes.pieces found.there) (contains_in _ t found.passes)

-- The sources of a job that stand in their tree are others than the new node.
differ_on : (merge : Operator) (world : World) (specs : ℕ → JobSpec) (name : ℕ) (segment : List ℕ) (floor : ℕ) (tick : ℤ) (job : Job) → FlushCase merge world specs name segment floor tick → SourcesStand world.store.manifest.trees job → Differ name job.spec.sources
differ_on merge world specs name segment floor tick job c stand = all_to _ _ job.spec.sources (λ x there named. source_differs world.store.history name x c.once
    (node_flushed world.store.history (tree_at job.spec.segment world.store.manifest.trees) x
    (tree_has (λ tree. AllByRecursion (λ node. IsFlush world.store.history node node.name) tree) job.spec.segment world.store.manifest.trees tt c.body.nodes.flushes) named))
    (stretch_in (tree_at job.spec.segment world.store.manifest.trees) job.spec.sources stand.stretch)

-- The manifest after a flush.
abbrev pub flush_manifest : World → ℕ → List ℕ → ℕ → ℤ → List Tracked → Manifest
flush_manifest world name segment floor tick tracker = record world.store.manifest {
  version = world.store.manifest.version + 1;
  trees = flushed_trees segment name (table_rows world.store.tables name) world.store.manifest.trees;
  floor = floor;
  tick = tick;
  tracker = tracker;
}

-- A flush leaves a kept job's sources in their tree, its settings fit and its join standing, and brings none of its
-- unused tables to a tree.
job_follows : (merge : Operator) (world : World) (specs : ℕ → JobSpec) (name : ℕ) (segment : List ℕ) (floor : ℕ) (tick : ℤ) (tracker : List Tracked) (job : Job) → FlushCase merge world specs name segment floor tick
    → JobKept merge world specs job → JobFollows world (flush_manifest world name segment floor tick tracker) job
job_follows merge world specs name segment floor tick tracker job c kept =
    let trees = world.store.manifest.trees in
    let rise = rising_from trees c.body.sound.prefixes in
    record {
      stand = λ stand. stand_on segment name (table_rows world.store.tables name) trees job rise (differ_on merge world specs name segment floor tick job c stand) stand;
      fit = λ settings holds stand fit. record {
        floor = let low = fit.floor in let stays = c.floor_stays in omega (arith, low, stays);
        cut = fit.cut;
        tick = int_le_trans settings.tick world.store.manifest.tick tick fit.tick c.tick_stays;
        last_run = λ is. oldest_on segment name (table_rows world.store.tables name) trees job rise (differ_on merge world specs name segment floor tick job c stand) stand.some (fit.last_run is);
      };
      floor = c.floor_stays;
      unused = λ table none active in_job. no_new_piece world.past (flush_manifest world name segment floor tick tracker) table
          (not_in_flushed segment name (table_rows world.store.tables name) trees table (c.differs table (inl (all_at _ (job_tables job) table (kept.facts.drawn active) in_job))) (not_stored world.store.manifest world.past table c.body.past none)) none;
      joined = λ stand. joined_flushed world.past (flush_manifest world name segment floor tick tracker) segment name (table_rows world.store.tables name) trees job rise (λ t was. c.differs t (piece_known merge world specs t c.body was)) stand;
    }

-- ---- the trees

-- What is so of each node stays so, and is so of the new node.
nodes_flushed : (P : Node → Type 0) (segment : List ℕ) (name : ℕ) (rows : List Row) (trees : Trees) → P (new_node name) → AllByRecursion (λ s. AllByRecursion P s.tree) trees → AllByRecursion (λ s. AllByRecursion P s.tree) (flushed_trees segment name rows trees)
nodes_flushed P segment name rows trees new h = each_flushed (λ s. AllByRecursion P s.tree) (λ s. AllByRecursion P s.tree) segment name rows trees (λ s there p. p) (λ s there same p. (new, p)) (new, tt) h

passed_on : (history : List Entry) (name : ℕ) (ns : List NodeName) (mark : Option ℕ) (entry : Entry) → was_flushed history name ≡ false → IsPassed history ns mark → IsPassed (history ++ entry ∷ []) (L0 name ∷ ns) mark
passed_on history name ns None entry once h = tt
passed_on history name ns (Some flush) entry once h = (flushed_grows history entry flush h.0, other (name == flush) refl)
  where
    other : (b : Bool) → (name == flush) ≡ b → cond b true (names_contain ns (L0 flush)) ≡ false
    other true e = absurd (refused (was_flushed history name) once (subst (λ n. IsTrue (was_flushed history n)) (sym ((Decides-eqb name flush).0 e)) h.0))
    other false e = h.1

passed_stays : (history : List Entry) (ns : List NodeName) (mark : Option ℕ) (entry : Entry) → IsPassed history ns mark → IsPassed (history ++ entry ∷ []) ns mark
passed_stays history ns mark entry h = passed_grows history entry ns mark h

-- The tables of a tree without the new one are apart from those of a tree with it.
tables_first : (a b : Segment) (name : ℕ) (rows : List Row) → (IsIn name (tree_tables b) → ⊥) → AreApart (tree_tables a) (tree_tables b) → AreApart (tree_tables (flushed_on name rows a)) (tree_tables b)
tables_first a b name rows none h = apart_from (name ∷ tree_tables a) (tree_tables b) (λ t in_a in_b. at t in_a in_b)
  where
    at : (t : ℕ) → IsIn t (name ∷ tree_tables a) → IsIn t (tree_tables b) → ⊥
    at t (inl same) in_b = none (subst (λ n. IsIn n (tree_tables b)) (sym same) in_b)
    at t (inr in_a) in_b = apart_at (tree_tables a) (tree_tables b) t h in_a in_b

tables_second : (a b : Segment) (name : ℕ) (rows : List Row) → (IsIn name (tree_tables a) → ⊥) → AreApart (tree_tables a) (tree_tables b) → AreApart (tree_tables a) (tree_tables (flushed_on name rows b))
tables_second a b name rows none h = apart_from (tree_tables a) (name ∷ tree_tables b) (λ t in_a in_b. at t in_a in_b)
  where
    at : (t : ℕ) → IsIn t (tree_tables a) → IsIn t (name ∷ tree_tables b) → ⊥
    at t in_a (inl same) = none (subst (λ n. IsIn n (tree_tables a)) (sym same) in_a)
    at t in_a (inr in_b) = apart_at (tree_tables a) (tree_tables b) t h in_a in_b

pub tables_none : (a : List ℕ) → AreApart a []
tables_none [] = refl
tables_none (x ∷ a) = tables_none a

-- No stored tree holds the new table.
not_held : (merge : Operator) (world : World) (specs : ℕ → JobSpec) (name : ℕ) (segment : List ℕ) (floor : ℕ) (tick : ℤ) (s : Segment) → FlushCase merge world specs name segment floor tick → IsIn s world.store.manifest.trees → IsIn name (tree_tables s) → ⊥
not_held merge world specs name segment floor tick s c there held =
    c.differs name (all_at _ (flat_map tree_tables world.store.manifest.trees) name
    (all_at (λ (m : Manifest). AllByRecursion (IsKnownPiece world.store.history) (flat_map tree_tables m.trees)) world.past world.store.manifest c.body.nodes.pieces (stored_in_past world.store.manifest world.past c.body.past))
    (in_flat tree_tables world.store.manifest.trees s name there held)) refl

-- The manifest of a flush follows the stored one: its trees are in order, with held tables, and keep reads.
flush_follows : (merge : Operator) (world : World) (specs : ℕ → JobSpec) (name : ℕ) (segment : List ℕ) (floor : ℕ) (tick : ℤ) (tracker : List Tracked) (line : ℕ) (party : Party) (answer : Answer) → stood answer ≡ true → FlushCase merge world specs name segment floor tick
    → Follows merge world specs (flush_manifest world name segment floor tick tracker) (record { line = line; party = party; event = PutManifest (Flush name segment floor tick); answer = answer })
flush_follows merge world specs name segment floor tick tracker line party answer took c =
    let entry : Entry = record { line = line; party = party; event = PutManifest (Flush name segment floor tick); answer = answer } in
    let b = c.body in
    let trees = world.store.manifest.trees in
    let rows = table_rows world.store.tables name in
    let manifest = flush_manifest world name segment floor tick tracker in
    let rise = rising_from trees b.sound.prefixes in
    let table = table_of world.store.tables name b.sound.tables c.put in
    let flushed_now : IsTrue (was_flushed (world.store.history ++ entry ∷ []) name) = any_push_yes (λ (e : Entry). is_flush_of name e.event && stood e.answer) world.store.history entry (rw (is_itself name, took) refl) in
    let grown = pieces_grow world.store.history entry world.past trees b.nodes in
    record {
      next = refl;
      objects = rw took refl;
      root = root_flushed segment name rows trees b.sound.root;
      prefixes = rising_to (flushed_trees segment name rows trees) (rising_flushed segment name rows trees rise);
      trees = record {
        each = each_flushed (IsTree world.store.tables) (IsTree world.store.tables) segment name rows trees (λ s there tree. tree)
            (λ s there same tree. tree_on world.store.tables name s (subst (λ o. AllByRecursion (λ (r : Row). IsAbove (last_seq_of o) r.seq) rows) (found_segment segment trees s rise there same) c.newer) table.ordered tree)
            (tree_on world.store.tables name (empty_segment segment) (all_from _ rows (λ r there. tt)) table.ordered (record { names_in_order = tt; newest_first = tt; at_most_last = tt; ordered = tt })) b.trees.each;
        apart = pairs_flushed NoneShared segment name rows trees (record {
          first = λ x y one other shared. shared_first x y name rows (no_name world.store.history name y.tree c.once (all_at _ trees y b.nodes.flushes other)) shared;
          second = λ x y one other shared. shared_second x y name rows (no_name world.store.history name x.tree c.once (all_at _ trees x b.nodes.flushes one)) shared;
          new = λ y there. (
            shared_first (empty_segment segment) y name rows (no_name world.store.history name y.tree c.once (all_at _ trees y b.nodes.flushes there)) refl,
            shared_second y (empty_segment segment) name rows (no_name world.store.history name y.tree c.once (all_at _ trees y b.nodes.flushes there)) (none_shared_empty (names y.tree)),
          );
        }) b.trees.apart;
        epochs = epoch_rises world.store.manifest world.store.records manifest (omega arith) b.trees.epochs;
      };
      pieces = nodes_flushed (λ node. AreHeld world.store node.pieces) segment name rows trees (rw c.held refl) b.pieces;
      flushes = nodes_flushed (λ node. WerePut world.store node.flushes) segment name rows trees (rw c.put refl) b.flushes;
      reads = each_flushed (λ s. TreeKeepsReads merge world.store s.tree) (λ s. TreeKeepsReads merge (record world.store { manifest = manifest }) s.tree) segment name rows trees
          (λ s there reads. reads_fewer merge world.store manifest s.tree refl c.tick_stays reads)
          (λ s there same reads. reads_new merge (record world.store { manifest = manifest }) name s.tree (reads_fewer merge world.store manifest s.tree refl c.tick_stays reads))
          (reads_new merge (record world.store { manifest = manifest }) name [] tt) b.reads;
      nodes = record {
        pieces = all_push _ world.past manifest grown.pieces (all_flat _ tree_tables (flushed_trees segment name rows trees)
            (each_flushed (λ s. AllByRecursion (IsKnownPiece (world.store.history ++ entry ∷ [])) (tree_tables s)) (λ s. AllByRecursion (IsKnownPiece (world.store.history ++ entry ∷ [])) (tree_tables s)) segment name rows trees
            (λ s there known. known) (λ s there same known. (inr flushed_now, known)) (inr flushed_now, tt)
            (all_unflat _ tree_tables trees (all_at (λ (m : Manifest). AllByRecursion (IsKnownPiece (world.store.history ++ entry ∷ [])) (flat_map tree_tables m.trees)) world.past world.store.manifest grown.pieces (stored_in_past world.store.manifest world.past b.past)))));
        flushes = nodes_flushed (λ node. IsFlush (world.store.history ++ entry ∷ []) node node.name) segment name rows trees (flushed_now, refl, refl) grown.flushes;
        watermarks = each_flushed (λ s. IsPassed world.store.history (names s.tree) s.watermark) (λ s. IsPassed (world.store.history ++ entry ∷ []) (names s.tree) s.watermark) segment name rows trees
            (λ s there passed. passed_stays world.store.history (names s.tree) s.watermark entry passed) (λ s there same passed. passed_on world.store.history name (names s.tree) s.watermark entry c.once passed) tt b.nodes.watermarks;
        apart = pairs_flushed (λ x y. AreApart (tree_tables x) (tree_tables y)) segment name rows trees (record {
          first = λ x y one other apart. tables_first x y name rows (not_held merge world specs name segment floor tick y c other) apart;
          second = λ x y one other apart. tables_second x y name rows (not_held merge world specs name segment floor tick x c one) apart;
          new = λ y there. (
            tables_first (empty_segment segment) y name rows (not_held merge world specs name segment floor tick y c there) refl,
            tables_second y (empty_segment segment) name rows (not_held merge world specs name segment floor tick y c there) (tables_none (tree_tables y)),
          );
        }) b.nodes.apart;
      };
      epochs = let same = flat_push_none (λ (e : Entry). epoch_in (stood e.answer) e.event) world.store.history entry (rw took refl) in record { up_to = rw same b.epochs.up_to; rise = rw same b.epochs.rise };
    }

-- ---- the law

-- The flush of a held table that was never flushed keeps the invariant, if its sequences are the greatest of its tree
-- and neither the floor nor the tick falls.
flush_by : (merge : Operator) (name : ℕ) (segment : List ℕ) (floor : ℕ) (tick : ℤ) (tracker : List Tracked) (line : ℕ) (party : Party) (answer : Answer) (world : World) → stood answer ≡ true → (k : Keeps merge world) → FlushCase merge world k.stored.replay.specs name segment floor tick
    → Keeps merge (with_manifest world (flush_manifest world name segment floor tick tracker) (record { line = line; party = party; event = PutManifest (Flush name segment floor tick); answer = answer }))
flush_by merge name segment floor tick tracker line party answer world took k c =
    let entry : Entry = record { line = line; party = party; event = PutManifest (Flush name segment floor tick); answer = answer } in
    let manifest = flush_manifest world name segment floor tick tracker in
    let w = whole_of merge world k in
    let specs = k.stored.replay.specs in
    keeps_of merge (with_manifest world manifest entry) specs (record {
      body = body_with_manifest merge world specs manifest entry (record { quiet = quiet_flush (stood answer) name segment floor tick; unnamed = refl; unplanned = refl })
          (flush_follows merge world specs name segment floor tick tracker line party answer took c) (λ job there kept. job_follows merge world specs name segment floor tick tracker job c kept) w.body;
      draws = draws_mute world.store.jobs_drawn world.store.tables_drawn world.store.history entry refl refl w.draws;
      puts = puts_kept world.store.history entry world.store.tables (table_none (stood answer) entry.event refl) (rw took (c.put, tt)) w.puts;
    })

-- A lawful flush that takes effect keeps the invariant.
pub flushes_keep : (merge : Operator) (name : ℕ) (segment : List ℕ) (floor : ℕ) (tick : ℤ) → StandingPutKeeps merge (Flush name segment floor tick)
flushes_keep merge name segment floor tick line party answer world value took k fits =
    let w = whole_of merge world k in
    subst (λ (v : Manifest). Keeps merge (with_manifest world (record v { version = world.store.manifest.version + 1 }) (record { line = line; party = party; event = PutManifest (Flush name segment floor tick); answer = answer }))) (sym fits.makes)
    (flush_by merge name segment floor tick (tracked_after fits.moment fits.retention (least_seq_of (table_rows world.store.tables name)) world.store.manifest.tracker) line party answer world took k (record {
      body = w.body;
      put = held_put world.store name fits.held;
      held = fits.held;
      once = fits.once;
      differs = λ id known same. known_differs world.store.jobs_drawn world.store.tables_drawn world.store.history name id w.draws fits.is_name fits.once known same;
      newer = fits.newer;
      floor_stays = fits.floor_stays;
      tick_stays = fits.tick_stays;
    }))
