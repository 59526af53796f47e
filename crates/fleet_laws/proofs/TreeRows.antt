-- The rows that the nodes of a tree hold, and those that were flushed into them: newer nodes come first.
use Rattle.std.proofs.Common.{◌≡◌, refl, sym, ◌∙◌, ap, ℕ, ◌<◌, List, [], ◌∷◌, ◌++◌, cond, Bool, true, false}
use Rattle.std.specs.Prelude.{flat_map, bytes_eq}
use Rattle.std.specs.List.{AllByRecursion}
use Rattle.std.specs.declared.cmp.Ordering.TheVariants.{Less, Equal}
use Rattle.std.specs.Ordering.{nat_cmp, ordering_then}
use Rattle.std.specs.Cmp.{nat_cmp_is}
use Rattle.std.proofs.lemmas.Slice.Eq.{bytes_eq-Decides}
use Rattle.row_model.specs.Rows.{Row, key_cmp, row_cmp, rows_of_key, sorted_rows}
use Rattle.fleet_model.specs.Nodes.{Tables, Node, Tree, node_rows, flushed_node_rows}
use Rattle.fleet_model.specs.Invariants.TreesFit.{IsNewer, node_and_flushed_rows}
use Rattle.row_laws.specs.Merges.{AllBefore}
use Rattle.row_laws.proofs.Merges.{newer_rows_come_first}
use Rattle.row_laws.proofs.KeyRows.{of_key-append, key_alike}
use Rattle.row_laws.proofs.Elements.{all_weaken, all_append, all_front, all_back}

-- ---- rows of one key with greater sequences come first

-- Every row of the newer list has a greater sequence than every row of the older list.
abbrev AreAbove : List Row → List Row → Type 0
AreAbove newer older = AllByRecursion (λ r. AllByRecursion (λ q. q.seq < r.seq) older) newer

above_nothing : (newer : List Row) → AreAbove newer []
above_nothing [] = tt
above_nothing (r ∷ newer) = (tt, above_nothing newer)

above_both : (newer xs ys : List Row) → AreAbove newer xs → AreAbove newer ys → AreAbove newer (xs ++ ys)
above_both [] xs ys h g = tt
above_both (r ∷ newer) xs ys h g = (all_append (λ q. q.seq < r.seq) xs ys h.0 g.0, above_both newer xs ys h.1 g.1)

-- If all rows have a property, each row of a key has the property and that key.
of_key : (key : List ℕ) (P : Row → Type 0) (rows : List Row) → AllByRecursion P rows → AllByRecursion (λ r. P r × (key ≡ r.key)) (rows_of_key key rows)
of_key key P [] h = tt
of_key key P (r ∷ rows) h = by (bytes_eq key r.key) refl (of_key key P rows h.1)
  where
    by : (b : Bool) → bytes_eq key r.key ≡ b → AllByRecursion (λ r. P r × (key ≡ r.key)) (rows_of_key key rows) → AllByRecursion (λ r. P r × (key ≡ r.key)) (cond b (r ∷ rows_of_key key rows) (rows_of_key key rows))
    by true e rest = ((h.0, (bytes_eq-Decides key r.key).0 e), rest)
    by false e rest = rest

before : (key : List ℕ) (r q : Row) → key ≡ r.key → key ≡ q.key → q.seq < r.seq → row_cmp r q ≡ Less
before key r q same_r same_q lower =
    let alike : key_cmp r.key q.key ≡ Equal = ap (λ k. key_cmp k q.key) (sym same_r) ∙ ap (key_cmp key) (sym same_q) ∙ key_alike key in
    ap (λ o. ordering_then o (nat_cmp q.seq r.seq)) alike ∙ sym (nat_cmp_is q.seq r.seq Less lower)

all_before : (key : List ℕ) (newer older : List Row) → AreAbove newer older → AllBefore (rows_of_key key newer) (rows_of_key key older)
all_before key newer older h =
    all_weaken (λ r. AllByRecursion (λ q. q.seq < r.seq) older × (key ≡ r.key)) (λ r. AllByRecursion (λ q. row_cmp r q ≡ Less) (rows_of_key key older))
    (λ r there. all_weaken (λ q. (q.seq < r.seq) × (key ≡ q.key)) (λ q. row_cmp r q ≡ Less) (λ q low. before key r q there.1 low.1 low.0) (rows_of_key key older) (of_key key (λ q. q.seq < r.seq) older there.0))
    (rows_of_key key newer) (of_key key (λ r. AllByRecursion (λ q. q.seq < r.seq) older) newer h)

-- ---- nodes, newest first

-- The rows that a node holds, or the rows of its flushes.
abbrev pub rows_by : Bool → Tables → Node → List Row
rows_by true tables node = node_rows tables node
rows_by false tables node = flushed_node_rows tables node

part_of : (b : Bool) (P : Row → Type 0) (tables : Tables) (node : Node) → AllByRecursion P (node_and_flushed_rows tables node) → AllByRecursion P (rows_by b tables node)
part_of true P tables node h = all_front P (node_rows tables node) (flushed_node_rows tables node) h
part_of false P tables node h = all_back P (node_rows tables node) (flushed_node_rows tables node) h

above_node : (b : Bool) (tables : Tables) (newer older : Node) → IsNewer tables newer older → AreAbove (rows_by b tables newer) (rows_by b tables older)
above_node b tables newer older h =
    all_weaken (λ r. AllByRecursion (λ q. q.seq < r.seq) (node_and_flushed_rows tables older)) (λ r. AllByRecursion (λ q. q.seq < r.seq) (rows_by b tables older))
    (λ r. part_of b (λ q. q.seq < r.seq) tables older) (rows_by b tables newer)
    (part_of b (λ r. AllByRecursion (λ q. q.seq < r.seq) (node_and_flushed_rows tables older)) tables newer h)

above_tree : (b : Bool) (tables : Tables) (node : Node) (tree : Tree) → AllByRecursion (IsNewer tables node) tree → AreAbove (rows_by b tables node) (flat_map (rows_by b tables) tree)
above_tree b tables node [] h = above_nothing (rows_by b tables node)
above_tree b tables node (other ∷ tree) h = above_both (rows_by b tables node) (rows_by b tables other) (flat_map (rows_by b tables) tree) (above_node b tables node other h.0) (above_tree b tables node tree h.1)

-- The rows of a key in some nodes, newest first.
abbrev pub part_rows : Bool → Tables → List ℕ → Tree → List Row
part_rows b tables key tree = sorted_rows (rows_of_key key (flat_map (rows_by b tables) tree))

pub first_node : (b : Bool) (tables : Tables) (key : List ℕ) (node : Node) (tree : Tree) → AllByRecursion (IsNewer tables node) tree
    → part_rows b tables key (node ∷ tree) ≡ sorted_rows (rows_of_key key (rows_by b tables node)) ++ part_rows b tables key tree
first_node b tables key node tree h =
    ap sorted_rows (of_key-append key (rows_by b tables node) (flat_map (rows_by b tables) tree))
    ∙ newer_rows_come_first (rows_of_key key (rows_by b tables node)) (rows_of_key key (flat_map (rows_by b tables) tree)) (all_before key (rows_by b tables node) (flat_map (rows_by b tables) tree) (above_tree b tables node tree h))
