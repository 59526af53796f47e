-- A step of a commit makes the trees lighter: it takes sources out that weigh at least 2, and puts at most one
-- run in.
use Rattle.std.proofs.Common.{◌≡◌, refl, sym, ◌∙◌, ap, subst, ℕ, ◌+◌, ◌<◌, ◌≤◌, List, [], ◌∷◌, ◌++◌, map, Bool, true, false, cond, Option, None, Some, arith}
use Rattle.std.specs.Prelude.{not, ◌&&◌, IsTrue, filter, flat_map, bytes_eq}
use Rattle.std.specs.List.{list_all, AllByRecursion}
use Rattle.std.specs.List.Sorted.{IsStrictlySortedBy}
use Rattle.std.specs.declared.cmp.Ordering.TheVariants.{Less}
use Rattle.row_model.specs.Rows.{key_cmp}
use Rattle.fleet_model.specs.Nodes.{NodeName, L0, Run, name_eq, names_contain, Node, Tables, Tree, Trees, Segment, names, segment_at, tree_at, tree_or_empty}
use Rattle.fleet_model.specs.Jobs.{JobSpec, is_drain_to}
use Rattle.fleet_model.specs.History.{Step, Join, Move, Drain}
use Rattle.fleet_model.specs.Work.Gates.{are_distinct}
use Rattle.fleet_model.specs.Trees.{without_nodes, watermark_after, is_run_below, put_run, with_run_for, stepped_tree, on_segment, stepped_in, source_nodes, source_pieces, by_first_key}
use Rattle.fleet_laws.proofs.Scans.{below_differs, same_bytes}
use Rattle.commit_laws.proofs.Stretches.{name_itself, name_same, name_turned}
use Rattle.last_laws.specs.Weights.{weight, weight_of, trees_weight, Lightens, StepsLighten}

-- ---- one tree

-- The nodes of a tree that are among the sources.
abbrev taken : List NodeName → Tree → Tree
taken sources tree = filter (λ node. names_contain sources node.name) tree

some_weight : (x : NodeName) → 1 ≤ weight x
some_weight (L0 name) = omega arith
some_weight (Run id) = omega arith

parted : (sources : List NodeName) (tree : Tree) → weight_of (names (without_nodes sources tree)) + weight_of (names (taken sources tree)) ≡ weight_of (names tree)
parted sources [] = omega arith
parted sources (node ∷ tree) = by (names_contain sources node.name) (parted sources tree)
  where
    by : (b : Bool) → weight_of (names (without_nodes sources tree)) + weight_of (names (taken sources tree)) ≡ weight_of (names tree)
        → weight_of (names (cond (not b) (node ∷ without_nodes sources tree) (without_nodes sources tree))) + weight_of (names (cond b (node ∷ taken sources tree) (taken sources tree))) ≡ weight node.name + weight_of (names tree)
    by true rest = omega (arith, rest)
    by false rest = omega (arith, rest)

run_put : (id : ℕ) (run : Node) (tree : Tree) → weight_of (names (put_run id run tree)) ≡ weight run.name + weight_of (names tree)
run_put id run [] = refl
run_put id run (node ∷ tree) = by (is_run_below id node.name) (run_put id run tree)
  where
    by : (b : Bool) → weight_of (names (put_run id run tree)) ≡ weight run.name + weight_of (names tree)
        → weight_of (names (cond b (run ∷ node ∷ tree) (node ∷ put_run id run tree))) ≡ weight run.name + (weight node.name + weight_of (names tree))
    by true rest = refl
    by false rest = omega (arith, rest)

either : (a b : Bool) → cond a true b ≡ true → a ≡ false → b ≡ true
either true b h e = absurd (cc e)
either false b h e = h

taken_first : (sources : List NodeName) (node : Node) (tree : Tree) → names_contain sources node.name ≡ true → weight_of (names (taken sources (node ∷ tree))) ≡ weight node.name + weight_of (names (taken sources tree))
taken_first sources node tree h = ap (λ b. weight_of (names (cond b (node ∷ taken sources tree) (taken sources tree)))) h

taken_grows : (sources : List NodeName) (node : Node) (tree : Tree) → weight_of (names (taken sources tree)) ≤ weight_of (names (taken sources (node ∷ tree)))
taken_grows sources node tree = by (names_contain sources node.name)
  where
    by : (b : Bool) → weight_of (names (taken sources tree)) ≤ weight_of (names (cond b (node ∷ taken sources tree) (taken sources tree)))
    by true = omega arith
    by false = omega arith

-- A source that is in the tree is taken.
one_taken : (sources : List NodeName) (tree : Tree) (x : NodeName) → names_contain sources x ≡ true → names_contain (names tree) x ≡ true → weight x ≤ weight_of (names (taken sources tree))
one_taken sources [] x named there = absurd (cc there)
one_taken sources (node ∷ tree) x named there = by (name_eq node.name x) refl (one_taken sources tree x named)
  where
    by : (b : Bool) → name_eq node.name x ≡ b → (names_contain (names tree) x ≡ true → weight x ≤ weight_of (names (taken sources tree))) → weight x ≤ weight_of (names (taken sources (node ∷ tree)))
    by true e rest =
        let same : node.name ≡ x = name_same node.name x e in
        let first = taken_first sources node tree (ap (names_contain sources) same ∙ named) in
        let heavy = ap weight same in
        omega (arith, first, heavy)
    by false e rest =
        let low = rest (either (name_eq node.name x) (names_contain (names tree) x) there e) in
        let grows = taken_grows sources node tree in
        omega (arith, low, grows)

-- Two different sources that are in the tree are both taken.
two_taken : (sources : List NodeName) (tree : Tree) (x y : NodeName) → name_eq x y ≡ false → names_contain sources x ≡ true → names_contain sources y ≡ true
    → names_contain (names tree) x ≡ true → names_contain (names tree) y ≡ true → weight x + weight y ≤ weight_of (names (taken sources tree))
two_taken sources [] x y differ x_named y_named x_there y_there = absurd (cc x_there)
two_taken sources (node ∷ tree) x y differ x_named y_named x_there y_there = by (name_eq node.name x) refl (name_eq node.name y) refl (two_taken sources tree x y differ x_named y_named)
  where
    by : (b : Bool) → name_eq node.name x ≡ b → (c : Bool) → name_eq node.name y ≡ c
        → (names_contain (names tree) x ≡ true → names_contain (names tree) y ≡ true → weight x + weight y ≤ weight_of (names (taken sources tree)))
        → weight x + weight y ≤ weight_of (names (taken sources (node ∷ tree)))
    by true e c f rest =
        let same : node.name ≡ x = name_same node.name x e in
        let first = taken_first sources node tree (ap (names_contain sources) same ∙ x_named) in
        let heavy = ap weight same in
        let other = one_taken sources tree y y_named (either (name_eq node.name y) (names_contain (names tree) y) y_there (ap (λ n. name_eq n y) same ∙ differ)) in
        omega (arith, first, heavy, other)
    by false e true f rest =
        let same : node.name ≡ y = name_same node.name y f in
        let first = taken_first sources node tree (ap (names_contain sources) same ∙ y_named) in
        let heavy = ap weight same in
        let other = one_taken sources tree x x_named (either (name_eq node.name x) (names_contain (names tree) x) x_there e) in
        omega (arith, first, heavy, other)
    by false e false f rest =
        let low = rest (either (name_eq node.name x) (names_contain (names tree) x) x_there e) (either (name_eq node.name y) (names_contain (names tree) y) y_there f) in
        let grows = taken_grows sources node tree in
        omega (arith, low, grows)

both : (a b : Bool) → IsTrue (a && b) → (a ≡ true) × (b ≡ true)
both true b h = (refl, h)
both false b h = absurd (cc h)

first_named : (x : NodeName) (sources : List NodeName) → names_contain (x ∷ sources) x ≡ true
first_named x sources = ap (λ b. cond b true (names_contain sources x)) (name_itself x)

later_named : (x y : NodeName) (sources : List NodeName) → names_contain sources y ≡ true → names_contain (x ∷ sources) y ≡ true
later_named x y sources h = by (name_eq x y)
  where
    by : (b : Bool) → cond b true (names_contain sources y) ≡ true
    by true = refl
    by false = h

differs_from_next : (x y : NodeName) (sources : List NodeName) → IsTrue (are_distinct (x ∷ y ∷ sources)) → name_eq x y ≡ false
differs_from_next x y sources h = name_turned y x (by (name_eq y x) (both (not (names_contain (y ∷ sources) x)) (are_distinct (y ∷ sources)) h).0)
  where
    by : (b : Bool) → not (cond b true (names_contain sources x)) ≡ true → b ≡ false
    by true e = absurd (cc e)
    by false e = refl

-- Sources that weigh at least 2 are a flush, or two different nodes at least.
sources_taken : (sources : List NodeName) (tree : Tree) → IsTrue (are_distinct sources) → 2 ≤ weight_of sources → IsTrue (list_all (names_contain (names tree)) sources) → 2 ≤ weight_of (names (taken sources tree))
sources_taken [] tree distinct heavy there = absurd (omega (arith, heavy))
sources_taken (x ∷ []) tree distinct heavy there =
    let low = one_taken (x ∷ []) tree x (first_named x []) (both (names_contain (names tree) x) true there).0 in
    omega (arith, heavy, low)
sources_taken (x ∷ y ∷ sources) tree distinct heavy there =
    let one = both (names_contain (names tree) x) (list_all (names_contain (names tree)) (y ∷ sources)) there in
    let two = both (names_contain (names tree) y) (list_all (names_contain (names tree)) sources) one.1 in
    let low = two_taken (x ∷ y ∷ sources) tree x y (differs_from_next x y sources distinct) (first_named x (y ∷ sources)) (later_named x y (y ∷ sources) (first_named y sources)) one.0 two.0 in
    let a = some_weight x in
    let b = some_weight y in
    omega (arith, low, a, b)

run_for_lightens : (sources : List NodeName) (id : ℕ) (pieces : List ℕ) (tree : Tree) → 2 ≤ weight_of (names (taken sources tree)) → weight_of (names (with_run_for sources id pieces tree)) < weight_of (names tree)
run_for_lightens sources id pieces tree heavy =
    let put = run_put id (record { name = Run id; flushes = flat_map (λ node. node.flushes) (source_nodes sources tree); pieces = pieces }) (without_nodes sources tree) in
    let part = parted sources tree in
    omega (arith, put, part, heavy)

-- By cases of the step, on the tree of its segment.
tree_lightens : (tables : Tables) (step : Step) (spec : JobSpec) (outputs : List ℕ) (tree : Tree) → Lightens spec → IsTrue (list_all (names_contain (names tree)) spec.sources)
    → weight_of (names (stepped_tree tables step spec outputs tree)) < weight_of (names tree)
tree_lightens tables step spec outputs tree l there = by step spec.destination l.heavy.makes_run
  where
    heavy : 2 ≤ weight_of (names (taken spec.sources tree))
    heavy = sources_taken spec.sources tree l.distinct l.heavy.weighs there

    by : (step : Step) (destination : Option ℕ) → is_drain_to destination ≡ false
        → weight_of (names (stepped_tree tables step (record spec { destination = destination }) outputs tree)) < weight_of (names tree)
    by (Join job) (Some id) e = run_for_lightens spec.sources id outputs tree heavy
    by (Move job) (Some id) e = run_for_lightens spec.sources id (by_first_key tables (source_pieces spec.sources tree)) tree heavy
    by (Drain job) (Some id) e = let part = parted spec.sources tree in omega (arith, part, heavy)
    by step None e = absurd (cc e)

-- ---- all trees

pub weight_both : (xs ys : List NodeName) → weight_of (xs ++ ys) ≡ weight_of xs + weight_of ys
weight_both [] ys = omega arith
weight_both (x ∷ xs) ys = let rest = weight_both xs ys in omega (arith, rest)

-- A step leaves the segments with other prefixes.
others_stay : (tables : Tables) (step : Step) (spec : JobSpec) (outputs : List ℕ) (trees : Trees) → AllByRecursion (λ k. key_cmp spec.segment k ≡ Less) (map (λ s. s.prefix) trees)
    → trees_weight (stepped_in tables step spec outputs trees) ≡ trees_weight trees
others_stay tables step spec outputs [] h = refl
others_stay tables step spec outputs (s ∷ trees) h =
    let same : on_segment spec.segment spec.sources (stepped_tree tables step spec outputs) s ≡ s = ap (λ b. cond b (record s {
      tree = stepped_tree tables step spec outputs s.tree;
      watermark = watermark_after spec.sources s.tree s.watermark;
    }) s) (below_differs spec.segment s.prefix h.0) in
    ap (λ (t : Segment). weight_of (names t.tree ++ flat_map (λ s. names s.tree) (stepped_in tables step spec outputs trees))) same
    ∙ weight_both (names s.tree) (flat_map (λ s. names s.tree) (stepped_in tables step spec outputs trees))
    ∙ ap (λ w. weight_of (names s.tree) + w) (others_stay tables step spec outputs trees h.1)
    ∙ sym (weight_both (names s.tree) (flat_map (λ s. names s.tree) trees))

empty_sources : (sources : List NodeName) → 2 ≤ weight_of sources → IsTrue (list_all (names_contain []) sources) → ⊥
empty_sources [] heavy there = omega (arith, heavy)
empty_sources (x ∷ sources) heavy there = cc there

-- The step changes one segment, the first one with its prefix, and leaves the others.
pub steps_lighten : StepsLighten
unfolding IsStrictlySortedBy
steps_lighten tables step spec outputs [] rises l there = absurd (empty_sources spec.sources l.heavy.weighs there)
steps_lighten tables step spec outputs (s ∷ trees) rises l there = by (bytes_eq spec.segment s.prefix) refl there (steps_lighten tables step spec outputs trees rises.1 l)
  where
    change : Tree → Tree
    change = stepped_tree tables step spec outputs

    by : (b : Bool) → bytes_eq spec.segment s.prefix ≡ b → IsTrue (list_all (names_contain (names (tree_or_empty (cond b (Some s) (segment_at spec.segment trees))))) spec.sources)
        → (IsTrue (list_all (names_contain (names (tree_at spec.segment trees))) spec.sources) → trees_weight (stepped_in tables step spec outputs trees) < trees_weight trees)
        → weight_of (names (cond b (record s { tree = change s.tree; watermark = watermark_after spec.sources s.tree s.watermark }) s).tree ++ flat_map (λ s. names s.tree) (stepped_in tables step spec outputs trees))
        < weight_of (names s.tree ++ flat_map (λ s. names s.tree) trees)
    by true e there rest =
        let prefix : s.prefix ≡ spec.segment = sym (same_bytes spec.segment s.prefix e) in
        let others = others_stay tables step spec outputs trees (subst (λ key. AllByRecursion (λ k. key_cmp key k ≡ Less) (map (λ s. s.prefix) trees)) prefix rises.0) in
        let this = tree_lightens tables step spec outputs s.tree l there in
        let new = weight_both (names (change s.tree)) (flat_map (λ s. names s.tree) (stepped_in tables step spec outputs trees)) in
        let old = weight_both (names s.tree) (flat_map (λ s. names s.tree) trees) in
        omega (arith, others, this, new, old)
    by false e there rest =
        let this = rest there in
        let new = weight_both (names s.tree) (flat_map (λ s. names s.tree) (stepped_in tables step spec outputs trees)) in
        let old = weight_both (names s.tree) (flat_map (λ s. names s.tree) trees) in
        omega (arith, this, new, old)
