-- What is kept of a segment, and how it is kept where a run replaces some nodes and where nodes are taken out.
use Rattle.std.proofs.Common.{◌≡◌, refl, sym, ◌∙◌, ap, subst, ℕ, List, [], ◌∷◌, ◌++◌, cond, Bool, true, false, inl, inr, ◌⊎◌, Option, Some, None}
use Rattle.std.specs.Prelude.{IsTrue, not, filter, ⊤}
use Rattle.std.specs.List.{AllByRecursion}
use Rattle.row_model.specs.Lists.{Pairs}
use Rattle.row_model.specs.Rows.{rows_of_key, sorted_rows}
use Rattle.row_model.specs.Fold.{Operator}
use Rattle.fleet_model.specs.Nodes.{Tables, table_rows, is_among, NodeName, L0, Run, is_l0, names_contain, Node, Tree, Segment, names, node_rows}
use Rattle.fleet_model.specs.History.{Entry}
use Rattle.fleet_model.specs.Store.{Store, AreHeld, WerePut, is_held}
use Rattle.fleet_model.specs.Trees.{without_nodes, watermark_after, l0_or}
use Rattle.fleet_model.specs.Invariants.TreesFit.{StandsBefore, IsTree, IsTable, IsNewer}
use Rattle.fleet_model.specs.Invariants.ReadsFit.{SameReads, NodeKeepsReads, TreeKeepsReads}
use Rattle.fleet_model.proofs.Joins.{same_reads-chain}
use Rattle.step_model.specs.Entries.{was_flushed}
use Rattle.step_model.specs.Kept.TablesKept.{IsKnownPiece, IsFlush, IsPassed}
use Rattle.step_laws.proofs.Elements.{IsIn, all_at, all_from, all_to, all_flat, all_true_front, all_true_from}
use Rattle.step_laws.proofs.Held.{held_put}
use Rattle.commit_laws.proofs.Stretches.{Named, InOrder, Between, never_both, in_names, names_no, node_in_names, node_of, pairs_names, names_pairs, pairs_first, pairs_second, pairs_filter, all_replaced, all_taken}
use Rattle.commit_laws.proofs.OtherJobs.{in_filtered, in_replaced}
use Rattle.commit_laws.proofs.RunTrees.{HaveRows, tree_named, tree_with_run}
use Rattle.fleet_laws.proofs.TreeRows.{part_rows}
use Rattle.commit_laws.proofs.TreeReads.{tree_to_part, part_to_tree, before_these, part_front, part_back, part_both, part_reads, fewer_reads}
use Rattle.commit_laws.proofs.RunRows.{RunFits, flushes_of_run}
use Rattle.commit_laws.specs.RunReads.{run_for, PartKeepsReads}
use Rattle.step_laws.proofs.Flushes.{table_of}

-- ---- tables that were put have rows

pub held_table : (store : Store) (t : ℕ) → AllByRecursion (λ table. IsTable table.1) store.tables → IsTrue (is_held store t) → IsTable (table_rows store.tables t)
held_table store t sound held = table_of store.tables t sound (held_put store t held)

pub all_held : (store : Store) (ts : List ℕ) → AllByRecursion (λ table. IsTable table.1) store.tables → AreHeld store ts → AllByRecursion (λ t. IsTable (table_rows store.tables t)) ts
all_held store ts sound held = all_to _ _ ts (λ t there one. held_table store t sound one) (all_true_front (is_held store) ts held)

-- ---- what is kept of a segment

pub record SegmentFits (merge : Operator) (store : Store) (history : List Entry) (s : Segment) : Type 0 where
  pub tree : IsTree store.tables s
  pub pieces : AllByRecursion (λ (node : Node). AreHeld store node.pieces) s.tree
  pub flushes : AllByRecursion (λ (node : Node). WerePut store node.flushes) s.tree
  pub reads : TreeKeepsReads merge store s.tree
  pub known : AllByRecursion (λ (node : Node). AllByRecursion (IsKnownPiece history) node.pieces) s.tree
  pub flushed : AllByRecursion (λ (node : Node). IsFlush history node node.name) s.tree
  pub passed : IsPassed history (names s.tree) s.watermark

pub have_rows : (merge : Operator) (store : Store) (history : List Entry) (s : Segment) → AllByRecursion (λ table. IsTable table.1) store.tables → SegmentFits merge store history s → HaveRows store.tables s.tree
have_rows merge store history s sound h = all_to _ _ s.tree (λ node there held. all_to _ _ node.pieces (λ t one table. table.some) (all_held store node.pieces sound held)) h.pieces

pub in_order : (tables : Tables) (s : Segment) → IsTree tables s → InOrder s.tree
in_order tables s h = pairs_names StandsBefore s.tree h.names_in_order

pub segment_named : (merge : Operator) (store : Store) (history : List Entry) (s : Segment) → AllByRecursion (λ table. IsTable table.1) store.tables → SegmentFits merge store history s → Named s.tree
segment_named merge store history s sound h = tree_named store.tables history s.tree (in_order store.tables s h.tree) h.tree.newest_first h.flushed (have_rows merge store history s sound h)

-- ---- the watermark

-- A flush among the sources took effect, and is no node any more.
abbrev Gone : List Entry → List NodeName → NodeName → Type 0
Gone history ns (L0 name) = IsTrue (was_flushed history name) × (names_contain ns (L0 name) ≡ false)
Gone history ns (Run id) = ⊤

-- The watermark after a step is passed, if it was so before and each flush among the sources took effect and is gone.
passed_by : (history : List Entry) (sources ns : List NodeName) (tree : Tree) (mark : Option ℕ) → AllByRecursion (λ (node : Node). names_contain sources node.name ≡ true → Gone history ns node.name) tree → IsPassed history ns mark
    → IsPassed history ns (watermark_after sources tree mark)
passed_by history sources ns [] mark gone h = h
passed_by history sources ns (node ∷ tree) mark gone h = by (names_contain sources node.name) refl (passed_by history sources ns tree mark gone.1 h)
  where
    at : (name : NodeName) → Gone history ns name → IsPassed history ns (l0_or mark name)
    at (L0 name) g = g
    at (Run id) g = h

    by : (b : Bool) → names_contain sources node.name ≡ b → IsPassed history ns (watermark_after sources tree mark) → IsPassed history ns (cond b (l0_or mark node.name) (watermark_after sources tree mark))
    by true e rest = at node.name (gone.0 e)
    by false e rest = rest

-- The nodes of the new tree are new runs, or nodes that are left.
abbrev pub Left : List NodeName → Tree → Tree → Type 0
Left sources tree new = (node : Node) → IsIn node new → (is_l0 node.name ≡ false) ⊎ IsIn node (without_nodes sources tree)

filter_passes : {A : Type 0} (p : A → Bool) (xs : List A) (y : A) → IsIn y (filter p xs) → p y ≡ true
filter_passes p [] y there = absurd there
filter_passes p (x ∷ xs) y there = by (p x) refl (filter_passes p xs y) there
  where
    by : (b : Bool) → p x ≡ b → (IsIn y (filter p xs) → p y ≡ true) → IsIn y (cond b (x ∷ filter p xs) (filter p xs)) → p y ≡ true
    by true e rest (inl same) = ap p (sym same) ∙ e
    by true e rest (inr one) = rest one
    by false e rest one = rest one

no_flush : (new : Tree) (n : ℕ) → ((node : Node) → IsIn node new → node.name ≡ L0 n → ⊥) → names_contain (names new) (L0 n) ≡ false
no_flush new n h = names_no (names new) (L0 n) (λ there. let found = node_of new (L0 n) there in h found.node found.there found.same)

-- The watermark after a step is passed, if the step brings no flush and takes its sources out.
pub passed_after : (history : List Entry) (sources : List NodeName) (tree new : Tree) (mark : Option ℕ) → Left sources tree new → AllByRecursion (λ (node : Node). IsFlush history node node.name) tree → IsPassed history (names tree) mark
    → IsPassed history (names new) (watermark_after sources tree mark)
passed_after history sources tree new mark left flushed h = passed_by history sources (names new) tree mark (all_to _ _ tree (λ node there flush among. gone node.name node flush refl among) flushed) (old mark h)
  where
    flush_not_run : (n : ℕ) → (name : NodeName) → name ≡ L0 n → is_l0 name ≡ false → ⊥
    flush_not_run n name same e = never_both (is_l0 name) (ap is_l0 same) e

    gone : (name : NodeName) → (node : Node) → IsFlush history node node.name → node.name ≡ name → names_contain sources name ≡ true → Gone history (names new) name
    gone (Run id) node flush same among = tt
    gone (L0 n) node flush same among = ((subst (IsFlush history node) same flush).0, no_flush new n (λ other there is. at other is (left other there)))
      where
        at : (other : Node) → other.name ≡ L0 n → (is_l0 other.name ≡ false) ⊎ IsIn other (without_nodes sources tree) → ⊥
        at other is (inl run) = flush_not_run n other.name is run
        at other is (inr one) = never_both (names_contain sources other.name) (ap (names_contain sources) is ∙ among) (unnot (names_contain sources other.name) (filter_passes (λ (x : Node). not (names_contain sources x.name)) tree other one))
          where
            unnot : (b : Bool) → not b ≡ true → b ≡ false
            unnot true e = absurd (cc e)
            unnot false e = refl

    old : (mark : Option ℕ) → IsPassed history (names tree) mark → IsPassed history (names new) mark
    old None h = tt
    old (Some flush) h = (h.0, no_flush new flush (λ other there is. at other is (left other there)))
      where
        at : (other : Node) → other.name ≡ L0 flush → (is_l0 other.name ≡ false) ⊎ IsIn other (without_nodes sources tree) → ⊥
        at other is (inl run) = flush_not_run flush other.name is run
        at other is (inr one) = never_both (names_contain (names tree) (L0 flush)) (has (subst (λ n. IsIn n (names tree)) is (node_in_names tree other (in_filtered (λ (x : Node). not (names_contain sources x.name)) tree other one)))) h.1
          where
            has : IsIn (L0 flush) (names tree) → names_contain (names tree) (L0 flush) ≡ true
            has there = in_names (names tree) (L0 flush) there

-- ---- a run in place of some nodes

flushes_all : (history : List Entry) (node : Node) (name : NodeName) → IsFlush history node name → AllByRecursion (λ n. IsTrue (was_flushed history n)) node.flushes
flushes_all history node (L0 name) h = subst (AllByRecursion (λ n. IsTrue (was_flushed history n))) (sym h.2) (h.0, tt)
flushes_all history node (Run id) h = h

pub run_reads : (merge : Operator) (store : Store) (oldest : Bool) (id : ℕ) (pieces : List ℕ) (t : Node) (ts : Tree) → Pairs (IsNewer store.tables) (t ∷ ts) → PartKeepsReads merge store oldest (t ∷ ts) → RunFits merge store oldest (t ∷ ts) (run_for id pieces (t ∷ ts))
    → NodeKeepsReads merge store oldest (run_for id pieces (t ∷ ts))
run_reads merge store oldest id pieces t ts newest reads fits key =
    subst (λ rows. SameReads merge store.manifest oldest key (sorted_rows (rows_of_key key rows)) (sorted_rows (rows_of_key key (node_rows store.tables (run_for id pieces (t ∷ ts)))))) (sym (flushes_of_run store.tables id pieces (t ∷ ts)))
    (same_reads-chain merge store.manifest oldest key (part_rows false store.tables key (t ∷ ts)) (part_rows true store.tables key (t ∷ ts)) (sorted_rows (rows_of_key key (node_rows store.tables (run_for id pieces (t ∷ ts)))))
    (part_reads merge store oldest key t ts newest reads) (fits.reads key))

one_part : (merge : Operator) (store : Store) (run : Node) (older : Tree) → NodeKeepsReads merge store (before_these true older) run → PartKeepsReads merge store true older → PartKeepsReads merge store true (run ∷ older)
one_part merge store run [] h k = h
one_part merge store run (o ∷ older) h k = (h, k)

-- The segment with the run.
abbrev pub with_run : Segment → List NodeName → Tree → ℕ → List ℕ → Tree → Tree → Segment
with_run s sources newer id pieces taken older = record s { tree = newer ++ run_for id pieces taken ∷ older; watermark = watermark_after sources s.tree s.watermark }

-- What is kept of a segment is kept with a run in place of a stretch, if the run's tables are held and its rows fit.
pub segment_with_run : (merge : Operator) (store : Store) (history : List Entry) (s : Segment) (sources : List NodeName) (newer : Tree) (t : Node) (ts older : Tree) (id : ℕ) (pieces : List ℕ) → s.tree ≡ newer ++ ((t ∷ ts) ++ older) → Between id newer older
    → without_nodes sources s.tree ≡ newer ++ older → AreHeld store pieces → AllByRecursion (IsKnownPiece history) pieces → RunFits merge store (before_these true older) (t ∷ ts) (run_for id pieces (t ∷ ts))
    → SegmentFits merge store history s → SegmentFits merge store history (with_run s sources newer id pieces (t ∷ ts) older)
segment_with_run merge store history s sources newer t ts older id pieces whole between less held known fits h = record {
  tree = tree_with_run store.tables s (watermark_after sources s.tree s.watermark) newer (t ∷ ts) older run id whole refl between fits.covered fits.ordered h.tree;
  pieces = replaced (λ node. AreHeld store node.pieces) h.pieces held;
  flushes = replaced (λ node. WerePut store node.flushes) h.flushes (all_true_from (is_among store.tables) run.flushes (all_flat (λ n. IsTrue (is_among store.tables n)) (λ (node : Node). node.flushes) (t ∷ ts)
      (all_to _ _ (t ∷ ts) (λ node there put. all_true_front (is_among store.tables) node.flushes put) (taken (λ node. WerePut store node.flushes) h.flushes))));
  reads = part_to_tree merge store (newer ++ run ∷ older) (part_both merge store true newer (run ∷ older) (part_front merge store true newer ((t ∷ ts) ++ older) reads)
      (one_part merge store run older (run_reads merge store (before_these true older) id pieces t ts (pairs_first (IsNewer store.tables) (t ∷ ts) older newest) (part_front merge store true (t ∷ ts) older rest) fits) (part_back merge store true (t ∷ ts) older rest)));
  known = replaced (λ node. AllByRecursion (IsKnownPiece history) node.pieces) h.known known;
  flushed = replaced (λ node. IsFlush history node node.name) h.flushed (all_flat (λ n. IsTrue (was_flushed history n)) (λ (node : Node). node.flushes) (t ∷ ts)
      (all_to _ _ (t ∷ ts) (λ node there flush. flushes_all history node node.name flush) (taken (λ node. IsFlush history node node.name) h.flushed)));
  passed = passed_after history sources s.tree (newer ++ run ∷ older) s.watermark left h.flushed h.passed;
}
  where
    run : Node
    run = run_for id pieces (t ∷ ts)

    replaced : (P : Node → Type 0) → AllByRecursion P s.tree → P run → AllByRecursion P (newer ++ run ∷ older)
    replaced P all new = all_replaced P newer (t ∷ ts) older run (subst (AllByRecursion P) whole all) new

    taken : (P : Node → Type 0) → AllByRecursion P s.tree → AllByRecursion P (t ∷ ts)
    taken P all = all_taken P newer (t ∷ ts) older (subst (AllByRecursion P) whole all)

    newest : Pairs (IsNewer store.tables) ((t ∷ ts) ++ older)
    newest = pairs_second (IsNewer store.tables) newer ((t ∷ ts) ++ older) (subst (Pairs (IsNewer store.tables)) whole h.tree.newest_first)

    reads : PartKeepsReads merge store true (newer ++ ((t ∷ ts) ++ older))
    reads = subst (PartKeepsReads merge store true) whole (tree_to_part merge store s.tree h.reads)

    rest : PartKeepsReads merge store true ((t ∷ ts) ++ older)
    rest = part_back merge store true newer ((t ∷ ts) ++ older) reads

    left : Left sources s.tree (newer ++ run ∷ older)
    left node there = by (in_replaced newer [] older run node there)
      where
        by : (run ≡ node) ⊎ IsIn node (newer ++ ([] ++ older)) → (is_l0 node.name ≡ false) ⊎ IsIn node (without_nodes sources s.tree)
        by (inl same) = inl (ap (λ (n : Node). is_l0 n.name) (sym same))
        by (inr one) = inr (subst (IsIn node) (sym less) one)

-- ---- nodes taken out

all_filter : {A : Type 0} (P : A → Type 0) (p : A → Bool) (xs : List A) → AllByRecursion P xs → AllByRecursion P (filter p xs)
all_filter P p xs h = all_from P (filter p xs) (λ x there. all_at P xs x h (in_filtered p xs x there))

-- The segment without these nodes.
abbrev pub with_less : Segment → List NodeName → Segment
with_less s sources = record s { tree = without_nodes sources s.tree; watermark = watermark_after sources s.tree s.watermark }

-- What is kept of a segment is kept when nodes are taken out of its tree.
pub segment_with_less : (merge : Operator) (store : Store) (history : List Entry) (s : Segment) (sources : List NodeName) → SegmentFits merge store history s → SegmentFits merge store history (with_less s sources)
segment_with_less merge store history s sources h =
    let keep : Node → Bool = λ node. not (names_contain sources node.name) in
    record {
      tree = record {
        names_in_order = names_pairs StandsBefore (without_nodes sources s.tree) (pairs_filter (λ (a b : Node). StandsBefore a.name b.name) keep s.tree (in_order store.tables s h.tree));
        newest_first = pairs_filter (IsNewer store.tables) keep s.tree h.tree.newest_first;
        at_most_last = all_filter _ keep s.tree h.tree.at_most_last;
        ordered = all_filter _ keep s.tree h.tree.ordered;
      };
      pieces = all_filter _ keep s.tree h.pieces;
      flushes = all_filter _ keep s.tree h.flushes;
      reads = part_to_tree merge store (without_nodes sources s.tree) (fewer_reads merge store true keep s.tree (tree_to_part merge store s.tree h.reads));
      known = all_filter _ keep s.tree h.known;
      flushed = all_filter _ keep s.tree h.flushed;
      passed = passed_after history sources s.tree (without_nodes sources s.tree) s.watermark (λ node there. inr there) h.flushed h.passed;
    }
