-- The trees of a view, each at its prefix, and the nodes that are in them.
use Rattle.std.proofs.Common.{map, ◌≡◌, ◌≢◌, refl, sym, ◌∙◌, ap, subst, ℕ, List, [], ◌∷◌, ◌++◌, Bool, true, false, cond, filter_map, take, drop, length, IsTrue}
use Rattle.std.specs.Prelude.{Some, is_some, bytes_eq, ◌==◌}
use Rattle.std.specs.List.{AllByRecursion, cons_option}
use Rattle.std.specs.List.Sorted.{IsStrictlySortedBy}
use Rattle.std.specs.declared.cmp.Ordering.TheVariants.{Less, Equal}
use Rattle.std.proofs.lemmas.Cmp.{nat_list_cmp_total, tied_itself}
use Rattle.std.proofs.lemmas.Slice.Eq.{bytes_eq-Decides}
use Rattle.row_model.specs.Lists.{Pairs}
use Rattle.row_model.specs.Rows.{key_cmp}
use Rattle.fleet_model.specs.Work.Gates.{are_distinct}
use Rattle.fleet_model.specs.Handles.{Handle, tree_tables}
use Rattle.fleet_model.specs.Jobs.{contains}
use Rattle.fleet_model.specs.Nodes.{NodeName, L0, Run, Segment, Tree, Trees, names, names_contain, segment_at, tree_at, tree_or_empty}
use Rattle.fleet_model.specs.Sources.{all_run_ids, run_ids}
use Rattle.fleet_model.specs.Invariants.TreesFit.{NoneShared, StandsBefore}
use Rattle.sched_model.specs.Sizes.{SizedTree, flush_names, run_names, sized_flush, sized_nodes, sized_run, sized_trees, tables_size}
use Rattle.sched_laws.proofs.Names.{In, apart_at}

-- ---- prefixes

pub same_prefix : (a : List ℕ) → bytes_eq a a ≡ true
same_prefix a = (bytes_eq-Decides a a).1 refl

pub equal_prefixes : (a b : List ℕ) → bytes_eq a b ≡ true → a ≡ b
equal_prefixes a b = (bytes_eq-Decides a b).0

pub other_prefix : (a b : List ℕ) → a ≢ b → bytes_eq a b ≡ false
other_prefix a b differ = by (bytes_eq a b) refl
  where
    by : (t : Bool) → bytes_eq a b ≡ t → t ≡ false
    by true e = absurd (differ (equal_prefixes a b e))
    by false e = refl

pub lower_is_other : (a b : List ℕ) → key_cmp a b ≡ Less → a ≢ b
lower_is_other a b less same =
    let itself : key_cmp a a ≡ Equal = tied_itself nat_list_cmp_total a in
    let here : key_cmp a a ≡ Less = subst (λ p. key_cmp a p ≡ Less) (sym same) less in
    cc (itself, here)

-- The segment is the one that is found at its prefix.
abbrev pub IsAt : Trees → Segment → Type 0
IsAt trees s = segment_at s.prefix trees ≡ Some s

later_at : (first : Segment) (trees rest : Trees) → AllByRecursion (λ p. key_cmp first.prefix p ≡ Less) (map (λ s. s.prefix) rest) → AllByRecursion (IsAt trees) rest → AllByRecursion (IsAt (first ∷ trees)) rest
later_at first trees [] above at = tt
later_at first trees (s ∷ rest) above at =
    let differ = other_prefix s.prefix first.prefix (λ same. lower_is_other first.prefix s.prefix above.0 (sym same)) in
    (ap (λ b. cond b (Some first) (segment_at s.prefix trees)) differ ∙ at.0, later_at first trees rest above.1 at.1)

-- Each segment is found at its prefix.
pub all_at_prefixes : (trees : Trees) → IsStrictlySortedBy key_cmp (map (λ s. s.prefix) trees) → AllByRecursion (IsAt trees) trees
unfolding IsStrictlySortedBy
all_at_prefixes [] rising = tt
all_at_prefixes (s ∷ trees) rising =
    (ap (λ b. cond b (Some s) (segment_at s.prefix trees)) (same_prefix s.prefix), later_at s trees trees rising.0 (all_at_prefixes trees rising.1))

all_other : (a : List ℕ) (prefixes : List (List ℕ)) → AllByRecursion (λ p. key_cmp a p ≡ Less) prefixes → AllByRecursion (λ p. a ≢ p) prefixes
all_other a [] above = tt
all_other a (p ∷ prefixes) above = (lower_is_other a p above.0, all_other a prefixes above.1)

-- No prefix is there twice.
pub prefixes_differ : (prefixes : List (List ℕ)) → IsStrictlySortedBy key_cmp prefixes → Pairs (λ a b. a ≢ b) prefixes
unfolding IsStrictlySortedBy
prefixes_differ [] rising = tt
prefixes_differ (p ∷ prefixes) rising = (all_other p prefixes rising.0, prefixes_differ prefixes rising.1)

-- ---- nodes of two trees

rest_apart : (s : Segment) (trees : Trees) (prefix : List ℕ) (x : NodeName) → AllByRecursion (NoneShared s) trees → In x (names s.tree) → In x (names (tree_at prefix trees)) → ⊥
rest_apart s [] prefix x apart here there = cc there
rest_apart s (t ∷ trees) prefix x apart here there = by (bytes_eq prefix t.prefix) there (rest_apart s trees prefix x apart.1 here)
  where
    by : (b : Bool) → In x (names (tree_or_empty (cond b (Some t) (segment_at prefix trees)))) → (In x (names (tree_at prefix trees)) → ⊥) → ⊥
    by true there later = apart_at (names s.tree) (names t.tree) x apart.0 here there
    by false there later = later there

-- No node is in the trees at two prefixes.
pub trees_apart : (trees : Trees) → Pairs NoneShared trees → (a b : List ℕ) → a ≢ b → (x : NodeName) → In x (names (tree_at a trees)) → In x (names (tree_at b trees)) → ⊥
trees_apart [] apart a b differ x here there = cc there
trees_apart (s ∷ trees) apart a b differ x here there =
    by (bytes_eq a s.prefix) refl (bytes_eq b s.prefix) refl here there (trees_apart trees apart.1 a b differ x)
  where
    by : (p : Bool) → bytes_eq a s.prefix ≡ p → (q : Bool) → bytes_eq b s.prefix ≡ q
        → In x (names (tree_or_empty (cond p (Some s) (segment_at a trees)))) → In x (names (tree_or_empty (cond q (Some s) (segment_at b trees))))
        → (In x (names (tree_at a trees)) → In x (names (tree_at b trees)) → ⊥) → ⊥
    by true e true f here there later = differ (equal_prefixes a s.prefix e ∙ sym (equal_prefixes b s.prefix f))
    by true e false f here there later = rest_apart s trees b x apart.0 here there
    by false e true f here there later = rest_apart s trees a x apart.0 there here
    by false e false f here there later = later here there

-- ---- ids of runs

pub contained_front : (id : ℕ) (xs ys : List ℕ) → contains xs id ≡ true → contains (xs ++ ys) id ≡ true
contained_front id [] ys h = absurd (cc h)
contained_front id (x ∷ xs) ys h = by (x == id) h (contained_front id xs ys)
  where
    by : (b : Bool) → cond b true (contains xs id) ≡ true → (contains xs id ≡ true → contains (xs ++ ys) id ≡ true) → cond b true (contains (xs ++ ys) id) ≡ true
    by true h later = refl
    by false h later = later h

pub contained_back : (id : ℕ) (xs ys : List ℕ) → contains ys id ≡ true → contains (xs ++ ys) id ≡ true
contained_back id [] ys h = h
contained_back id (x ∷ xs) ys h = by (x == id) (contained_back id xs ys h)
  where
    by : (b : Bool) → contains (xs ++ ys) id ≡ true → cond b true (contains (xs ++ ys) id) ≡ true
    by true h = refl
    by false h = h

-- A run among the nodes has its id among their ids.
pub run_is_contained : (nodes : List NodeName) (id : ℕ) → In (Run id) nodes → contains (run_ids nodes) id ≡ true
run_is_contained [] id h = absurd (cc h)
run_is_contained (L0 name ∷ nodes) id h = run_is_contained nodes id h
run_is_contained (Run other ∷ nodes) id h = by (other == id) h (run_is_contained nodes id)
  where
    by : (b : Bool) → cond b true (names_contain nodes (Run id)) ≡ true → (In (Run id) nodes → contains (run_ids nodes) id ≡ true) → cond b true (contains (run_ids nodes) id) ≡ true
    by true h later = refl
    by false h later = later h

-- An id among the nodes' ids is that of a run among them.
pub contained_is_run : (nodes : List NodeName) (id : ℕ) → contains (run_ids nodes) id ≡ true → In (Run id) nodes
contained_is_run [] id h = absurd (cc h)
contained_is_run (L0 name ∷ nodes) id h = contained_is_run nodes id h
contained_is_run (Run other ∷ nodes) id h = by (other == id) h (contained_is_run nodes id)
  where
    by : (b : Bool) → cond b true (contains (run_ids nodes) id) ≡ true → (contains (run_ids nodes) id ≡ true → In (Run id) nodes) → cond b true (names_contain nodes (Run id)) ≡ true
    by true h later = refl
    by false h later = later h

-- A run of the tree at a prefix is one of the runs of all trees.
pub run_of_trees : (trees : Trees) (prefix : List ℕ) (id : ℕ) → In (Run id) (names (tree_at prefix trees)) → contains (all_run_ids trees) id ≡ true
run_of_trees [] prefix id h = absurd (cc h)
run_of_trees (s ∷ trees) prefix id h = by (bytes_eq prefix s.prefix) h (run_of_trees trees prefix id)
  where
    by : (b : Bool) → In (Run id) (names (tree_or_empty (cond b (Some s) (segment_at prefix trees))))
        → (In (Run id) (names (tree_at prefix trees)) → contains (all_run_ids trees) id ≡ true) → contains (run_ids (names s.tree) ++ all_run_ids trees) id ≡ true
    by true h later = contained_front id (run_ids (names s.tree)) (all_run_ids trees) (run_is_contained (names s.tree) id h)
    by false h later = contained_back id (run_ids (names s.tree)) (all_run_ids trees) (later h)

-- ---- the trees that the scheduler looks at

-- The tree is found at its segment. Its flushes and then its runs are the nodes there, in order, and none
-- is named twice.
pub record StandsIn (trees : Trees) (t : SizedTree) : Type 0 where
  pub found : is_some (segment_at t.segment trees) ≡ true
  pub nodes : names (tree_at t.segment trees) ≡ flush_names t.flushes ++ run_names t.runs
  pub in_order : Pairs StandsBefore (flush_names t.flushes ++ run_names t.runs)
  pub named_once : are_distinct (flush_names t.flushes ++ run_names t.runs) ≡ true

no_flushes : (handles : List Handle) (id : ℕ) (tree : Tree) → AllByRecursion (StandsBefore (Run id)) (names tree) → filter_map sized_flush (sized_nodes handles tree) ≡ []
no_flushes handles id [] before = refl
no_flushes handles id (node ∷ tree) before =
    by node.name (tables_size (take (length node.pieces) handles)) before.0 (no_flushes (drop (length node.pieces) handles) id tree before.1)
  where
    by : (name : NodeName) (size : ℕ) → StandsBefore (Run id) name → filter_map sized_flush (sized_nodes (drop (length node.pieces) handles) tree) ≡ []
        → cons_option (sized_flush (name, size)) (filter_map sized_flush (sized_nodes (drop (length node.pieces) handles) tree)) ≡ []
    by (L0 n) size before later = absurd before
    by (Run i) size before later = later

-- The names of a tree in order are those of its flushes, and then those of its runs.
flushes_first : (handles : List Handle) (tree : Tree) → Pairs StandsBefore (names tree)
    → names tree ≡ flush_names (filter_map sized_flush (sized_nodes handles tree)) ++ run_names (filter_map sized_run (sized_nodes handles tree))
flushes_first handles [] order = refl
flushes_first handles (node ∷ tree) order =
    by node.name (tables_size (take (length node.pieces) handles)) (drop (length node.pieces) handles) order.0 (flushes_first (drop (length node.pieces) handles) tree order.1)
  where
    by : (name : NodeName) (size : ℕ) (left : List Handle) → AllByRecursion (StandsBefore name) (names tree)
        → names tree ≡ flush_names (filter_map sized_flush (sized_nodes left tree)) ++ run_names (filter_map sized_run (sized_nodes left tree))
        → ◌≡◌ {A = List NodeName} (name ∷ names tree)
        (flush_names (cons_option (sized_flush (name, size)) (filter_map sized_flush (sized_nodes left tree))) ++ run_names (cons_option (sized_run (name, size)) (filter_map sized_run (sized_nodes left tree))))
    by (L0 n) size left before later = ap (λ (l : List NodeName). L0 n ∷ l) later
    by (Run i) size left before later =
        let none = no_flushes left i tree before in
        let runs : List NodeName = run_names (filter_map sized_run (sized_nodes left tree)) in
        ap (λ (l : List NodeName). Run i ∷ l) (later ∙ ap (λ f. flush_names f ++ runs) none) ∙ sym (ap (λ f. flush_names f ++ (Run i ∷ runs)) none)

-- Each tree that the scheduler looks at stands in the trees.
pub all_stand : (trees : Trees) (handles : List Handle) (rest : Trees) → AllByRecursion (IsAt trees) rest → AllByRecursion (λ s. Pairs StandsBefore (names s.tree)) rest
    → AllByRecursion (λ s. IsTrue (are_distinct (names s.tree))) rest → AllByRecursion (StandsIn trees) (sized_trees handles rest)
all_stand trees handles [] at order once = tt
all_stand trees handles (s ∷ rest) at order once =
    let parts = flushes_first handles s.tree order.0 in (
      record {
        found = ap is_some at.0;
        nodes = ap (λ f. names (tree_or_empty f)) at.0 ∙ parts;
        in_order = subst (Pairs StandsBefore) parts order.0;
        named_once = subst (λ l. are_distinct l ≡ true) parts once.0;
      },
      all_stand trees (drop (length (tree_tables s)) handles) rest at.1 order.1 once.1,
    )

-- The trees that the scheduler looks at have the prefixes of the trees.
pub same_prefixes : (handles : List Handle) (trees : Trees) → map (λ t. t.segment) (sized_trees handles trees) ≡ map (λ s. s.prefix) trees
same_prefixes handles [] = refl
same_prefixes handles (s ∷ trees) = ap (λ (l : List (List ℕ)). s.prefix ∷ l) (same_prefixes (drop (length (tree_tables s)) handles) trees)
