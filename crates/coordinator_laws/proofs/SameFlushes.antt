-- A step that fits makes a tree lighter, or leaves the name and the flushes of each of its nodes.
use Rattle.std.proofs.Common.{◌≡◌, refl, sym, ◌∙◌, ap, subst, ℕ, ◌+◌, ◌<◌, ◌≤◌, List, [], ◌∷◌, ◌++◌, map, cond, Bool, true, false, inl, inr, ◌⊎◌, Option, arith}
use Rattle.std.specs.Prelude.{bytes_eq, not, flat_map, ⊤}
use Rattle.std.specs.List.{AllByRecursion}
use Rattle.std.proofs.lemmas.List.{append-nil}
use Rattle.std.proofs.lemmas.Slice.Eq.{bytes_eq-Decides}
use Rattle.fleet_model.specs.Nodes.{NodeName, L0, Run, names_contain, names, Node, Tree, Segment, Trees}
use Rattle.fleet_model.specs.Jobs.{JobSpec}
use Rattle.fleet_model.specs.Sources.{run_ids, all_run_ids}
use Rattle.fleet_model.specs.Trees.{without_nodes, watermark_after, l0_or, on_segment}
use Rattle.step_laws.proofs.Elements.{IsIn, all_from}
use Rattle.step_laws.proofs.FlushTrees.{Rising}
use Rattle.commit_laws.specs.RunReads.{run_for}
use Rattle.commit_laws.proofs.SecondJoins.{same_mark}
use Rattle.commit_laws.proofs.StepTrees.{changed_segment, only_segment}
use Rattle.commit_laws.proofs.JobSteps.{RunAt}

-- ---- the weight of a tree

abbrev weight : NodeName → ℕ
weight (L0 name) = 2
weight (Run id) = 1

-- How heavy the nodes with these names are: a flush weighs 2, and a run weighs 1.
abbrev pub weigh : List NodeName → ℕ
weigh [] = 0
weigh (name ∷ ns) = weight name + weigh ns

weigh_both : (xs ys : Tree) → weigh (names (xs ++ ys)) ≡ weigh (names xs) + weigh (names ys)
weigh_both [] ys = omega arith
weigh_both (x ∷ xs) ys = let rest = weigh_both xs ys in omega (arith, rest)

some_weight : (name : NodeName) → 1 ≤ weight name
some_weight (L0 n) = omega arith
some_weight (Run n) = omega arith

-- ---- names and flushes

abbrev tag : Node → NodeName × List ℕ
tag node = (node.name, node.flushes)

-- The name of each node with the flushes that went into it.
abbrev pub tags : Tree → List (NodeName × List ℕ)
tags tree = map tag tree

tagged_names : (tree : Tree) → map (λ (t : NodeName × List ℕ). t.0) (tags tree) ≡ names tree
tagged_names [] = refl
tagged_names (node ∷ tree) = ap (λ ns. node.name ∷ ns) (tagged_names tree)

same_names : (a b : Tree) → tags a ≡ tags b → names a ≡ names b
same_names a b e = sym (tagged_names a) ∙ ap (map (λ (t : NodeName × List ℕ). t.0)) e ∙ tagged_names b

tags_there : (newer : Tree) (x y : Node) (older : Tree) → tag x ≡ tag y → tags (newer ++ x ∷ older) ≡ tags (newer ++ y ∷ older)
tags_there [] x y older e = ap (λ t. t ∷ tags older) e
tags_there (n ∷ newer) x y older e = ap (λ ts. tag n ∷ ts) (tags_there newer x y older e)

-- ---- segments after steps

-- A segment after steps: its tree is lighter, or it has the names, the flushes and the watermark that it had.
pub record Eased (a b : Segment) : Type 0 where
  pub prefix : b.prefix ≡ a.prefix
  pub last_seq : b.last_seq ≡ a.last_seq
  pub nodes : (weigh (names b.tree) < weigh (names a.tree)) ⊎ ((tags b.tree ≡ tags a.tree) × (b.watermark ≡ a.watermark))

abbrev pub AllEased : Trees → Trees → Type 0
AllEased [] [] = ⊤
AllEased (a ∷ xs) (b ∷ ys) = Eased a b × AllEased xs ys
AllEased xs ys = ⊥

itself : (s : Segment) → Eased s s
itself s = record { prefix = refl; last_seq = refl; nodes = inr (refl, refl) }

pub all_themselves : (trees : Trees) → AllEased trees trees
all_themselves [] = tt
all_themselves (s ∷ trees) = (itself s, all_themselves trees)

eased_then : (a b c : Segment) → Eased a b → Eased b c → Eased a c
eased_then a b c first second = record { prefix = second.prefix ∙ first.prefix; last_seq = second.last_seq ∙ first.last_seq; nodes = by first.nodes second.nodes }
  where
    by : (weigh (names b.tree) < weigh (names a.tree)) ⊎ ((tags b.tree ≡ tags a.tree) × (b.watermark ≡ a.watermark)) → (weigh (names c.tree) < weigh (names b.tree)) ⊎ ((tags c.tree ≡ tags b.tree) × (c.watermark ≡ b.watermark))
        → (weigh (names c.tree) < weigh (names a.tree)) ⊎ ((tags c.tree ≡ tags a.tree) × (c.watermark ≡ a.watermark))
    by (inl one) (inl two) = inl (omega (arith, one, two))
    by (inl one) (inr two) = let same = ap weigh (same_names c.tree b.tree two.0) in inl (omega (arith, one, same))
    by (inr one) (inl two) = let same = ap weigh (same_names b.tree a.tree one.0) in inl (omega (arith, two, same))
    by (inr one) (inr two) = inr (two.0 ∙ one.0, two.1 ∙ one.1)

pub all_eased_then : (xs ys zs : Trees) → AllEased xs ys → AllEased ys zs → AllEased xs zs
all_eased_then [] [] zs h k = k
all_eased_then [] (b ∷ ys) zs h k = absurd h
all_eased_then (a ∷ xs) [] zs h k = absurd h
all_eased_then (a ∷ xs) (b ∷ ys) [] h k = absurd k
all_eased_then (a ∷ xs) (b ∷ ys) (c ∷ zs) h k = (eased_then a b c h.0 k.0, all_eased_then xs ys zs h.1 k.1)

-- A change of the segments with a prefix eases all segments, if it eases those.
all_on : (prefix : List ℕ) (sources : List NodeName) (change : Tree → Tree) (trees : Trees) → AllByRecursion (λ s. bytes_eq prefix s.prefix ≡ true → Eased s (changed_segment sources change s)) trees
    → AllEased trees (map (on_segment prefix sources change) trees)
all_on prefix sources change [] h = tt
all_on prefix sources change (s ∷ trees) h = (by (bytes_eq prefix s.prefix) refl, all_on prefix sources change trees h.1)
  where
    by : (b : Bool) → bytes_eq prefix s.prefix ≡ b → Eased s (cond b (changed_segment sources change s) s)
    by true e = h.0 e
    by false e = itself s

-- ---- nodes taken out

no_heavier : (sources : List NodeName) (tree : Tree) → weigh (names (without_nodes sources tree)) ≤ weigh (names tree)
no_heavier sources [] = omega arith
no_heavier sources (node ∷ tree) = by (names_contain sources node.name) (no_heavier sources tree)
  where
    by : (b : Bool) → weigh (names (without_nodes sources tree)) ≤ weigh (names tree) → weigh (names (cond (not b) (node ∷ without_nodes sources tree) (without_nodes sources tree))) ≤ weight node.name + weigh (names tree)
    by true rest = omega (arith, rest)
    by false rest = omega (arith, rest)

-- A tree without some nodes is lighter, or none of them was in it.
without_eases : (sources : List NodeName) (tree : Tree) (mark : Option ℕ)
    → (weigh (names (without_nodes sources tree)) < weigh (names tree)) ⊎ ((tags (without_nodes sources tree) ≡ tags tree) × (watermark_after sources tree mark ≡ mark))
without_eases sources [] mark = inr (refl, refl)
without_eases sources (node ∷ tree) mark = by (names_contain sources node.name) (without_eases sources tree mark)
  where
    by : (b : Bool) → (weigh (names (without_nodes sources tree)) < weigh (names tree)) ⊎ ((tags (without_nodes sources tree) ≡ tags tree) × (watermark_after sources tree mark ≡ mark))
        → (weigh (names (cond (not b) (node ∷ without_nodes sources tree) (without_nodes sources tree))) < weight node.name + weigh (names tree))
        ⊎ ((tags (cond (not b) (node ∷ without_nodes sources tree) (without_nodes sources tree)) ≡ tag node ∷ tags tree) × (cond b (l0_or mark node.name) (watermark_after sources tree mark) ≡ mark))
    by true rest = let some = some_weight node.name in let low = no_heavier sources tree in inl (omega (arith, some, low))
    by false (inl less) = inl (omega (arith, less))
    by false (inr same) = inr (ap (λ ts. tag node ∷ ts) same.0, same.1)

-- A step that takes nodes out eases all segments.
pub out_eases : (prefix : List ℕ) (sources : List NodeName) (trees : Trees) → AllEased trees (map (on_segment prefix sources (without_nodes sources)) trees)
out_eases prefix sources trees = all_on prefix sources (without_nodes sources) trees (all_from _ trees (λ s there e. record { prefix = refl; last_seq = refl; nodes = without_eases sources s.tree s.watermark }))

-- ---- a run in place of nodes

-- A run in place of a flush or of two nodes is lighter than they are. A run in place of one run has its name and its flushes.
run_eases : {trees : Trees} {spec : JobSpec} {id : ℕ} {pieces : List ℕ} {change : Tree → Tree} (c : RunAt trees spec id pieces change) → Eased c.s (changed_segment spec.sources change c.s)
run_eases {trees} {spec} {id} {pieces} {change} c = record { prefix = refl; last_seq = refl; nodes = by c.t.name refl c.ts refl }
  where
    run : Node
    run = run_for id pieces (c.t ∷ c.ts)

    old : weigh (names c.s.tree) ≡ weigh (names c.newer) + (weight c.t.name + (weigh (names c.ts) + weigh (names c.older)))
    old =
        let whole = ap (λ tree. weigh (names tree)) c.whole in
        let first = weigh_both c.newer ((c.t ∷ c.ts) ++ c.older) in
        let rest = weigh_both c.ts c.older in
        omega (arith, whole, first, rest)

    new : weigh (names (change c.s.tree)) ≡ weigh (names c.newer) + (1 + weigh (names c.older))
    new = ap (λ tree. weigh (names tree)) c.is ∙ weigh_both c.newer (run ∷ c.older)

    -- The run that the step makes is the only source.
    same_run : (r : ℕ) → c.t.name ≡ Run r → c.ts ≡ [] → Run id ≡ c.t.name
    same_run r name none = at c.fresh
      where
        no_runs : (ts : Tree) → r ∷ run_ids (names ts) ≡ [] → ⊥
        no_runs ts e = absurd (cc e)

        at : IsIn (Run id) (names (c.t ∷ c.ts)) ⊎ ((run_ids (names (c.t ∷ c.ts)) ≡ []) × (IsIn id (all_run_ids trees) → ⊥)) → Run id ≡ c.t.name
        at (inl (inl same)) = sym same
        at (inl (inr there)) = absurd (subst (λ ts. IsIn (Run id) (names ts)) none there)
        at (inr (empty, new)) = absurd (no_runs c.ts (ap (λ n. run_ids (n ∷ names c.ts)) (sym name) ∙ empty))

    alone : (r : ℕ) → c.t.name ≡ Run r → c.ts ≡ [] → tags (change c.s.tree) ≡ tags c.s.tree
    alone r name none =
        let is = same_run r name none in
        let flushes : run.flushes ≡ c.t.flushes = ap (λ ts. c.t.flushes ++ flat_map (λ (node : Node). node.flushes) ts) none ∙ append-nil c.t.flushes in
        ap tags c.is ∙ tags_there c.newer run c.t c.older (λ i. (is i, flushes i)) ∙ ap (λ ts. tags (c.newer ++ ((c.t ∷ ts) ++ c.older))) (sym none) ∙ ap tags (sym c.whole)

    mark : (r : ℕ) → c.t.name ≡ Run r → c.ts ≡ [] → watermark_after spec.sources c.s.tree c.s.watermark ≡ c.s.watermark
    mark r name none =
        ap (λ ns. watermark_after ns c.s.tree c.s.watermark) (sym c.named ∙ (λ i. name i ∷ names (none i))) ∙ same_mark r c.s.tree c.s.watermark

    by : (name : NodeName) → c.t.name ≡ name → (ts : Tree) → c.ts ≡ ts
        → (weigh (names (change c.s.tree)) < weigh (names c.s.tree)) ⊎ ((tags (change c.s.tree) ≡ tags c.s.tree) × (watermark_after spec.sources c.s.tree c.s.watermark ≡ c.s.watermark))
    by (L0 n) e ts f = let heavy = ap weight e in let a = old in let b = new in inl (omega (arith, heavy, a, b))
    by (Run r) e [] f = inr (alone r e f, mark r e f)
    by (Run r) e (u ∷ us) f =
        let heavy = ap weight e in
        let others = ap (λ ts. weigh (names ts)) f in
        let some = some_weight u.name in
        let a = old in
        let b = new in
        inl (omega (arith, heavy, others, some, a, b))

-- A step that puts a run eases all segments.
pub run_step_eases : {trees : Trees} {spec : JobSpec} {id : ℕ} {pieces : List ℕ} {change : Tree → Tree} → RunAt trees spec id pieces change → Rising trees → AllEased trees (map (on_segment spec.segment spec.sources change) trees)
run_step_eases {trees} {spec} {id} {pieces} {change} c rise = all_on spec.segment spec.sources change trees (all_from _ trees (λ s there e.
    subst (λ (x : Segment). Eased x (changed_segment spec.sources change x)) (only_segment spec.segment trees c.s s rise c.there c.same there ((bytes_eq-Decides spec.segment s.prefix).0 e)) (run_eases c)))
