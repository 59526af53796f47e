-- A tree in which one run replaces a stretch: it stays a tree, if the run has only sequences of the stretch.
use Rattle.std.proofs.Common.{◌≡◌, refl, sym, ◌∙◌, ap, subst, ℕ, ◌<◌, List, [], ◌∷◌, ◌++◌, inl, Option, arith}
use Rattle.std.specs.Prelude.{◌≢◌, flat_map}
use Rattle.std.specs.List.{AllByRecursion}
use Rattle.row_model.specs.Lists.{Pairs}
use Rattle.row_model.specs.Rows.{Row, IsStrictlyOrdered}
use Rattle.fleet_model.specs.Nodes.{Tables, table_rows, NodeName, L0, Run, name_eq, Node, Tree, Segment, names, node_rows}
use Rattle.fleet_model.specs.Trees.{source_nodes, source_pieces, without_nodes, put_run, with_run_for}
use Rattle.fleet_model.specs.Invariants.TreesFit.{StandsBefore, IsNewer, IsTree, IsAtMost, node_and_flushed_rows}
use Rattle.fleet_model.specs.History.{Entry}
use Rattle.step_model.specs.Kept.TablesKept.{IsFlush}
use Rattle.step_laws.proofs.Elements.{IsIn, all_at, all_from, in_front}
use Rattle.step_laws.proofs.Deletions.{in_flat}
use Rattle.commit_laws.proofs.Stretches.{Named, InOrder, Stretch, Between, other_or, name_same, pairs_names, names_pairs, pairs_of, pairs_replaced, all_replaced, all_taken, pairs_second, nodes_named, without_stretch, put_between}
use Rattle.step_laws.proofs.Elements.{in_back}
use Rattle.commit_laws.specs.RunReads.{run_for}

-- ---- nodes share no table, and no name

-- The tables of the nodes of a tree have rows.
abbrev pub HaveRows : Tables → Tree → Type 0
HaveRows tables tree = AllByRecursion (λ (node : Node). AllByRecursion (λ t. table_rows tables t ≢ []) node.pieces) tree

pub first_of : (rows : List Row) → rows ≢ [] → (r : Row) × IsIn r rows
first_of [] h = absurd (h refl)
first_of (r ∷ rows) h = (r, inl refl)

pub none_in_both : (tables : Tables) (newer older : Node) (t : ℕ) → IsNewer tables newer older → IsIn t newer.pieces → IsIn t older.pieces → table_rows tables t ≢ [] → ⊥
none_in_both tables newer older t h one other some =
    let first = first_of (table_rows tables t) some in
    let low = all_at (λ (q : Row). q.seq < first.0.seq) (node_and_flushed_rows tables older) first.0
    (all_at (λ (r : Row). AllByRecursion (λ (q : Row). q.seq < r.seq) (node_and_flushed_rows tables older)) (node_and_flushed_rows tables newer) first.0 h (in_front first.0 (node_rows tables newer) _ (in_flat (table_rows tables) newer.pieces t first.0 one first.1)))
    (in_front first.0 (node_rows tables older) _ (in_flat (table_rows tables) older.pieces t first.0 other first.1)) in
    absurd (omega (arith, low))

-- No two nodes of a tree have a name in common.
pub tree_named : (tables : Tables) (history : List Entry) (tree : Tree) → InOrder tree → Pairs (IsNewer tables) tree → AllByRecursion (λ (node : Node). IsFlush history node node.name) tree → HaveRows tables tree → Named tree
tree_named tables history [] order newest flushes rows = tt
tree_named tables history (a ∷ tree) order newest flushes rows =
    (all_from _ tree (λ b there. other_or (name_eq a.name b.name) (λ same. clash b there (name_same a.name b.name same))), tree_named tables history tree order.1 newest.1 flushes.1 rows.1)
  where
    clash : (b : Node) → IsIn b tree → a.name ≡ b.name → ⊥
    clash b there same = by a.name refl
      where
        piece : (node : Node) (n : ℕ) → IsFlush history node (L0 n) → IsIn n node.pieces
        piece node n flush = subst (IsIn n) (sym flush.1) (inl refl)

        by : (name : NodeName) → a.name ≡ name → ⊥
        by (Run n) is =
            let low : StandsBefore (Run n) (Run n) = subst (λ x. StandsBefore x (Run n)) is (subst (StandsBefore a.name) (sym same ∙ is) (all_at (λ (y : Node). StandsBefore a.name y.name) tree b order.0 there)) in
            absurd (omega (arith, low))
        by (L0 n) is =
            let in_a = piece a n (subst (IsFlush history a) is flushes.0) in
            let in_b = piece b n (subst (IsFlush history b) (sym same ∙ is) (all_at (λ (y : Node). IsFlush history y y.name) tree b flushes.1 there)) in
            none_in_both tables a b n (all_at (IsNewer tables a) tree b newest.0 there) in_a in_b (all_at (λ t. table_rows tables t ≢ []) a.pieces n rows.0 in_a)

-- ---- the tree with the run

pub nodes_of_stretch : (sources : List NodeName) (tree : Tree) (s : Stretch sources tree) → Named tree → source_nodes sources tree ≡ s.taken
nodes_of_stretch sources tree s named = subst (λ ns. source_nodes ns tree ≡ s.taken) s.named (nodes_named tree s.taken named (λ node there. subst (IsIn node) (sym s.whole) (in_back node s.newer (s.taken ++ s.older) (in_front node s.taken s.older there))))

pub without_sources : (sources : List NodeName) (tree : Tree) (s : Stretch sources tree) → Named tree → without_nodes sources tree ≡ s.newer ++ s.older
without_sources sources tree s named =
    subst (λ ns. without_nodes ns tree ≡ s.newer ++ s.older) s.named (subst (λ nodes. without_nodes (names s.taken) nodes ≡ s.newer ++ s.older) (sym s.whole) (without_stretch s.newer s.taken s.older (subst Named s.whole named)))

pub run_stands : (sources : List NodeName) (id : ℕ) (pieces : List ℕ) (tree : Tree) (s : Stretch sources tree) → Named tree → Between id s.newer s.older
    → with_run_for sources id pieces tree ≡ s.newer ++ run_for id pieces s.taken ∷ s.older
run_stands sources id pieces tree s named between =
    let nodes = nodes_of_stretch sources tree s named in
    let less = without_sources sources tree s named in
    (λ i. put_run id (run_for id pieces (nodes i)) (less i)) ∙ put_between id (run_for id pieces s.taken) s.newer s.older between

pub pieces_of_stretch : (sources : List NodeName) (tree : Tree) (s : Stretch sources tree) → Named tree → source_pieces sources tree ≡ flat_map (λ (node : Node). node.pieces) s.taken
pieces_of_stretch sources tree s named = ap (flat_map (λ (node : Node). node.pieces)) (nodes_of_stretch sources tree s named)

-- Each sequence of the run and its flushes is one of the nodes that it replaces.
abbrev pub Covered : Tables → Tree → Node → Type 1
Covered tables taken run = (P : ℕ → Type 0) → AllByRecursion (λ (node : Node). AllByRecursion (λ (r : Row). P r.seq) (node_and_flushed_rows tables node)) taken → AllByRecursion (λ (r : Row). P r.seq) (node_and_flushed_rows tables run)

-- A run in place of a stretch leaves the tree in order, if it is ordered, fits there and has the stretch's sequences.
pub tree_with_run : (tables : Tables) (s : Segment) (mark : Option ℕ) (newer taken older : Tree) (run : Node) (id : ℕ) → s.tree ≡ newer ++ (taken ++ older) → run.name ≡ Run id → Between id newer older → Covered tables taken run → IsStrictlyOrdered (node_rows tables run)
    → IsTree tables s → IsTree tables (record s { tree = newer ++ run ∷ older; watermark = mark })
tree_with_run tables s mark newer taken older run id whole name between covered ordered h = record {
  names_in_order = names_pairs StandsBefore (newer ++ run ∷ older) (pairs_replaced (λ (a b : Node). StandsBefore a.name b.name) newer taken older run (subst InOrder whole (pairs_names StandsBefore s.tree h.names_in_order))
      (subst (λ n. AllByRecursion (λ (x : Node). StandsBefore x.name n) newer) (sym name) between.afterwards)
      (subst (λ n. AllByRecursion (λ (o : Node). StandsBefore n o.name) older) (sym name) between.before));
  newest_first = pairs_replaced (IsNewer tables) newer taken older run newest
      (all_from _ newer (λ n there. all_from _ (node_and_flushed_rows tables n) (λ r one. covered (λ seq. seq < r.seq) (all_from _ taken (λ t other. all_at (λ (x : Row). AllByRecursion (λ (q : Row). q.seq < x.seq) (node_and_flushed_rows tables t)) (node_and_flushed_rows tables n) r (before n t there other) one)))))
      (all_from _ older (λ o there. covered (λ seq. AllByRecursion (λ (q : Row). q.seq < seq) (node_and_flushed_rows tables o)) (all_from _ taken (λ t other. after t o other there))));
  at_most_last = all_replaced (λ (node : Node). AllByRecursion (λ (r : Row). IsAtMost s.last_seq r.seq) (node_and_flushed_rows tables node)) newer taken older run at_most
      (covered (λ seq. IsAtMost s.last_seq seq) (all_taken (λ (node : Node). AllByRecursion (λ (r : Row). IsAtMost s.last_seq r.seq) (node_and_flushed_rows tables node)) newer taken older at_most));
  ordered = all_replaced (λ (node : Node). IsStrictlyOrdered (node_rows tables node)) newer taken older run (subst (AllByRecursion (λ (node : Node). IsStrictlyOrdered (node_rows tables node))) whole h.ordered) ordered;
}
  where
    newest : Pairs (IsNewer tables) (newer ++ (taken ++ older))
    newest = subst (Pairs (IsNewer tables)) whole h.newest_first

    at_most : AllByRecursion (λ (node : Node). AllByRecursion (λ (r : Row). IsAtMost s.last_seq r.seq) (node_and_flushed_rows tables node)) (newer ++ (taken ++ older))
    at_most = subst (AllByRecursion (λ (node : Node). AllByRecursion (λ (r : Row). IsAtMost s.last_seq r.seq) (node_and_flushed_rows tables node))) whole h.at_most_last

    before : (n t : Node) → IsIn n newer → IsIn t taken → IsNewer tables n t
    before n t one other = pairs_of (IsNewer tables) newer (taken ++ older) n t newest one (in_front t taken older other)

    after : (t o : Node) → IsIn t taken → IsIn o older → IsNewer tables t o
    after t o one other = pairs_of (IsNewer tables) taken older t o (pairs_second (IsNewer tables) newer (taken ++ older) newest) one other
