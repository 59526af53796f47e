-- What a flush leaves of the trees and of each job.
use Rattle.std.proofs.Common.{◌≡◌, refl, sym, ◌∙◌, ap, subst, ℕ, ◌<◌, ◌≤◌, List, [], ◌∷◌, ◌++◌, cond, Bool, true, false, inl, inr, Option, Some, None, arith}
use Rattle.std.specs.Prelude.{IsTrue, bytes_eq, flat_map, int_le}
use Rattle.std.specs.List.{AllByRecursion}
use Rattle.std.proofs.lemmas.List.{append-nil}
use Rattle.std.proofs.lemmas.Slice.Eq.{bytes_eq-Decides}
use Rattle.std.specs.declared.cmp.Ordering.TheVariants.{Less, Equal}
use Rattle.row_model.specs.Rows.{Row, IsStrictlyOrdered, key_cmp}
use Rattle.row_model.specs.Fold.{Operator}
use Rattle.row_laws.proofs.KeyRows.{key_alike}
use Rattle.row_laws.proofs.RetentionReads.{int_le_trans}
use Rattle.fleet_model.specs.Nodes.{Tables, table_rows, NodeName, L0, Run, Node, Tree, Segment, Trees, names, node_named, segment_at, tree_at}
use Rattle.fleet_model.specs.Jobs.{Job}
use Rattle.fleet_model.specs.Store.{Manifest, Store}
use Rattle.fleet_model.specs.Work.Gates.{is_nonempty}
use Rattle.fleet_model.specs.Trees.{flushed_trees, flushed_on, greater_seq, greatest_seq}
use Rattle.fleet_model.specs.Sources.{run_ids, all_run_ids, older_nodes}
use Rattle.fleet_model.specs.Invariants.TreesFit.{IsTree, IsAtMost, StandsBefore, node_and_flushed_rows}
use Rattle.fleet_model.specs.Invariants.JobsFit.{SourcesStand, DestinationFits}
use Rattle.fleet_model.specs.Invariants.ReadsFit.{NodeKeepsReads, TreeKeepsReads}
use Rattle.step_model.specs.LawfulManifests.{IsAbove}
use Rattle.step_model.specs.Kept.JoinsKept.{JoinStands, Gone, NotEmpty, Itself}
use Rattle.step_model.specs.LawfulTables.{was_piece}
use Rattle.step_laws.proofs.Elements.{IsIn, all_at, all_from, all_to, all_append}
use Rattle.step_laws.proofs.FlushTrees.{Rising, new_node, tree_flushed}
use Rattle.step_laws.proofs.FlushNodes.{Differ, SameSources, same_sources, runs_flushed, not_in_flushed}
use Rattle.step_laws.proofs.ManifestEpochs.{piece_stays}

-- ---- a job's sources

destination_on : (trees others : Trees) (tree other : Tree) (sources : List NodeName) (destination : Option ℕ) → all_run_ids others ≡ all_run_ids trees → run_ids (names other) ≡ run_ids (names tree) → DestinationFits trees tree sources destination → DestinationFits others other sources destination
destination_on trees others tree other sources None all runs h = h
destination_on trees others tree other sources (Some id) all runs h = rw (runs, all) h

no_sources : (trees : Trees) (job : Job) → job.spec.sources ≡ [] → IsTrue (is_nonempty job.spec.sources) → ⊥
no_sources trees job none some = absurd (cc (rw none at some))

-- Sources that stand in their tree still stand there after a flush whose name is none of theirs.
pub stand_on : (prefix : List ℕ) (name : ℕ) (rows : List Row) (trees : Trees) (job : Job) → Rising trees → Differ name job.spec.sources → SourcesStand trees job → SourcesStand (flushed_trees prefix name rows trees) job
stand_on prefix name rows trees job rise differ h = by job.spec.sources refl differ
  where
    with_same : SameSources job.spec.sources (tree_at job.spec.segment (flushed_trees prefix name rows trees)) (tree_at job.spec.segment trees) → SourcesStand (flushed_trees prefix name rows trees) job
    with_same same = record {
      some = h.some;
      stretch = rw same.older h.stretch;
      source_tables = ap (flat_map (λ (node : Node). node.pieces)) same.nodes ∙ h.source_tables;
      destination = destination_on trees (flushed_trees prefix name rows trees) (tree_at job.spec.segment trees) (tree_at job.spec.segment (flushed_trees prefix name rows trees)) job.spec.sources job.spec.destination (runs_flushed prefix name rows trees) same.runs h.destination;
    }

    by : (sources : List NodeName) → job.spec.sources ≡ sources → Differ name sources → SourcesStand (flushed_trees prefix name rows trees) job
    by [] e d = absurd (no_sources trees job e h.some)
    by (x ∷ xs) e d = with_same (subst (λ sources. SameSources sources (tree_at job.spec.segment (flushed_trees prefix name rows trees)) (tree_at job.spec.segment trees)) (sym e) (same_sources job.spec.segment prefix name rows trees x xs rise d))

pub oldest_on : (prefix : List ℕ) (name : ℕ) (rows : List Row) (trees : Trees) (job : Job) → Rising trees → Differ name job.spec.sources → IsTrue (is_nonempty job.spec.sources)
    → older_nodes job.spec.sources (names (tree_at job.spec.segment trees)) ≡ Some [] → older_nodes job.spec.sources (names (tree_at job.spec.segment (flushed_trees prefix name rows trees))) ≡ Some []
oldest_on prefix name rows trees job rise differ some h = by job.spec.sources refl differ
  where
    by : (sources : List NodeName) → job.spec.sources ≡ sources → Differ name sources → older_nodes job.spec.sources (names (tree_at job.spec.segment (flushed_trees prefix name rows trees))) ≡ Some []
    by [] e d = absurd (no_sources trees job e some)
    by (x ∷ xs) e d = (subst (λ sources. SameSources sources (tree_at job.spec.segment (flushed_trees prefix name rows trees)) (tree_at job.spec.segment trees)) (sym e) (same_sources job.spec.segment prefix name rows trees x xs rise d)).older ∙ h

-- ---- joins

run_node : (p prefix : List ℕ) (name run : ℕ) (rows : List Row) (trees : Trees) → Rising trees → node_named (Run run) (tree_at p (flushed_trees prefix name rows trees)) ≡ node_named (Run run) (tree_at p trees)
run_node p prefix name run rows trees rise = ap (node_named (Run run)) (tree_flushed p prefix name rows trees rise) ∙ by (bytes_eq p prefix)
  where
    by : (b : Bool) → node_named (Run run) (cond b (new_node name ∷ tree_at p trees) (tree_at p trees)) ≡ node_named (Run run) (tree_at p trees)
    by true = refl
    by false = refl

pub joined_flushed : (past : List Manifest) (new : Manifest) (prefix : List ℕ) (name : ℕ) (rows : List Row) (trees : Trees) (job : Job) → Rising trees → ((t : ℕ) → IsTrue (was_piece past t) → name ≡ t → ⊥)
    → JoinStands past trees job → JoinStands (past ++ new ∷ []) (flushed_trees prefix name rows trees) job
joined_flushed past new prefix name rows trees job rise differs (Gone table there gone) = Gone table there (piece_stays past new table gone.0, not_in_flushed prefix name rows trees table (differs table gone.0) gone.1)
joined_flushed past new prefix name rows trees job rise differs (NotEmpty run there other none some) =
    NotEmpty run there other none (rw (run_node job.spec.segment prefix name run rows trees rise) some)
joined_flushed past new prefix name rows trees job rise differs (Itself run sources destination none empty) = Itself run sources destination none empty

-- ---- sequences

at_most_greater : (last : Option ℕ) (n seq : ℕ) → IsAtMost last seq → IsAtMost (greater_seq last n) seq
at_most_greater None n seq h = absurd h
at_most_greater (Some l) n seq h = omega (arith, h)

own_greater : (last : Option ℕ) (n : ℕ) → IsAtMost (greater_seq last n) n
own_greater None n = omega arith
own_greater (Some l) n = omega arith

pub at_most_stays : (last : Option ℕ) (rows : List Row) (seq : ℕ) → IsAtMost last seq → IsAtMost (greatest_seq last rows) seq
at_most_stays last [] seq h = h
at_most_stays last (r ∷ rows) seq h = at_most_stays (greater_seq last r.seq) rows seq (at_most_greater last r.seq seq h)

pub at_most_own : (last : Option ℕ) (rows : List Row) → AllByRecursion (λ r. IsAtMost (greatest_seq last rows) r.seq) rows
at_most_own last [] = tt
at_most_own last (r ∷ rows) = (at_most_stays (greater_seq last r.seq) rows r.seq (own_greater last r.seq), at_most_own (greater_seq last r.seq) rows)

between : (last : Option ℕ) (q r : ℕ) → IsAtMost last q → IsAbove last r → q < r
between None q r h k = absurd h
between (Some l) q r h k = omega (arith, h, k)

-- ---- the tree with the new node

-- All rows of the new node are those of its table.
new_rows : (P : Row → Type 0) (tables : Tables) (name : ℕ) → AllByRecursion P (table_rows tables name) → AllByRecursion P (node_and_flushed_rows tables (new_node name))
new_rows P tables name h = all_append P (table_rows tables name ++ []) (table_rows tables name ++ []) (rw (append-nil (table_rows tables name)) h) (rw (append-nil (table_rows tables name)) h)

before_all : (name : ℕ) (ns : List NodeName) → AllByRecursion (StandsBefore (L0 name)) ns
before_all name [] = tt
before_all name (L0 n ∷ ns) = (tt, before_all name ns)
before_all name (Run n ∷ ns) = (tt, before_all name ns)

-- A tree in order is so with a new flush in front, if the flush's rows are ordered and above the tree's last sequence.
pub tree_on : (tables : Tables) (name : ℕ) (s : Segment) → AllByRecursion (λ r. IsAbove s.last_seq r.seq) (table_rows tables name) → IsStrictlyOrdered (table_rows tables name) → IsTree tables s → IsTree tables (flushed_on name (table_rows tables name) s)
tree_on tables name s newer ordered h = record {
  names_in_order = (before_all name (names s.tree), h.names_in_order);
  newest_first = (
    all_from _ s.tree (λ node there. new_rows (λ r. AllByRecursion (λ (q : Row). q.seq < r.seq) (node_and_flushed_rows tables node)) tables name
        (all_to _ _ (table_rows tables name) (λ r one high. all_to _ _ (node_and_flushed_rows tables node) (λ q other low. between s.last_seq q.seq r.seq low high) (all_at _ s.tree node h.at_most_last there)) newer)),
    h.newest_first,
  );
  at_most_last = (
    new_rows (λ r. IsAtMost (greatest_seq s.last_seq (table_rows tables name)) r.seq) tables name (at_most_own s.last_seq (table_rows tables name)),
    all_to _ _ s.tree (λ node there old. all_to _ _ (node_and_flushed_rows tables node) (λ r one low. at_most_stays s.last_seq (table_rows tables name) r.seq low) old) h.at_most_last,
  );
  ordered = (rw (append-nil (table_rows tables name)) ordered, h.ordered);
}

-- Among trees by rising prefix, the segment found at a prefix is the one that has the prefix.
pub found_segment : (prefix : List ℕ) (trees : Trees) (s : Segment) → Rising trees → IsIn s trees → prefix ≡ s.prefix → segment_at prefix trees ≡ Some s
found_segment prefix [] s rise there same = absurd there
found_segment prefix (t ∷ trees) s rise (inl first) same = ap (λ b. cond b (Some t) (segment_at prefix trees)) ((bytes_eq-Decides prefix t.prefix).1 (same ∙ ap (λ (u : Segment). u.prefix) (sym first))) ∙ ap Some first
found_segment prefix (t ∷ trees) s rise (inr there) same = by (bytes_eq prefix t.prefix) refl (found_segment prefix trees s rise.1 there same)
  where
    clash : key_cmp t.prefix t.prefix ≡ Less → key_cmp t.prefix t.prefix ≡ Equal → ⊥
    clash a b = absurd (cc (a, b))

    by : (b : Bool) → bytes_eq prefix t.prefix ≡ b → segment_at prefix trees ≡ Some s → cond b (Some t) (segment_at prefix trees) ≡ Some s
    by true e rest =
        let equal : s.prefix ≡ t.prefix = sym same ∙ (bytes_eq-Decides prefix t.prefix).0 e in
        absurd (clash (subst (λ k. key_cmp t.prefix k ≡ Less) equal (all_at _ trees s rise.0 there)) (key_alike t.prefix))
    by false e rest = rest

-- ---- reads

-- A manifest with a later tick answers no more reads.
fewer : (merge : Operator) (store : Store) (manifest : Manifest) (oldest : Bool) (node : Node) → manifest.horizon ≡ store.manifest.horizon → IsTrue (int_le store.manifest.tick manifest.tick) → NodeKeepsReads merge store oldest node → NodeKeepsReads merge (record store { manifest = manifest }) oldest node
fewer merge store manifest oldest node horizon tick h key s now above below low late last = h key s now above below (subst (λ n. n ≤ s) horizon low) (int_le_trans store.manifest.tick manifest.tick now tick late) last

pub reads_fewer : (merge : Operator) (store : Store) (manifest : Manifest) (tree : Tree) → manifest.horizon ≡ store.manifest.horizon → IsTrue (int_le store.manifest.tick manifest.tick) → TreeKeepsReads merge store tree → TreeKeepsReads merge (record store { manifest = manifest }) tree
reads_fewer merge store manifest [] horizon tick h = tt
reads_fewer merge store manifest (node ∷ []) horizon tick h = fewer merge store manifest true node horizon tick h
reads_fewer merge store manifest (node ∷ other ∷ tree) horizon tick h = (fewer merge store manifest false node horizon tick h.0, reads_fewer merge store manifest (other ∷ tree) horizon tick h.1)

pub reads_new : (merge : Operator) (store : Store) (name : ℕ) (tree : Tree) → TreeKeepsReads merge store tree → TreeKeepsReads merge store (new_node name ∷ tree)
reads_new merge store name [] h = λ key s now above below low late last. refl
reads_new merge store name (other ∷ tree) h = ((λ key s now above below low late last. refl), h)
