-- The stretch of another job, which has no node in common, stays a stretch where a run replaces some nodes and where nodes are taken out.
use Rattle.std.proofs.Common.{◌≡◌, refl, sym, ◌∙◌, ap, subst, ℕ, List, [], ◌∷◌, ◌++◌, cond, Bool, true, false, inl, inr, Option, Some, None}
use Rattle.std.specs.Prelude.{IsTrue, ◌||◌, not, filter, find, option_map}
use Rattle.std.specs.List.{AllByRecursion, list_any, cons_option}
use Rattle.fleet_model.specs.Nodes.{NodeName, L0, Run, name_eq, is_l0, names_contain, Node, Tree, names, node_named}
use Rattle.fleet_model.specs.Sources.{after_front, or_later, older_nodes, reaches_oldest, is_whole_stretch}
use Rattle.fleet_model.specs.Trees.{source_nodes, without_nodes}
use Rattle.step_laws.proofs.Elements.{IsIn, all_at, all_from, all_to}
use Rattle.commit_laws.proofs.Stretches.{Named, Stretch, name_same, name_itself, name_turned, never_both, names_append, pairs_of, pairs_filter, filter_append, filter_all, all_names}

-- None of the names is this one, and no name is in both lists.
abbrev pub NotIn : List NodeName → NodeName → Type 0
NotIn xs y = AllByRecursion (λ x. name_eq x y ≡ false) xs

abbrev pub NoneIn : List NodeName → List NodeName → Type 0
NoneIn xs ys = AllByRecursion (NotIn xs) ys

-- ---- names around others

front_apart : (xs p : List NodeName) (z : NodeName) (more : List NodeName) → NotIn xs z → after_front xs (p ++ z ∷ more) ≡ option_map (λ rest. rest ++ z ∷ more) (after_front xs p)
front_apart [] p z more h = refl
front_apart (x ∷ xs) [] z more h = ap (λ b. cond b (after_front xs more) None) h.0
front_apart (x ∷ xs) (y ∷ p) z more h = by (name_eq x y) (front_apart xs p z more h.1)
  where
    by : (b : Bool) → after_front xs (p ++ z ∷ more) ≡ option_map (λ rest. rest ++ z ∷ more) (after_front xs p)
        → cond b (after_front xs (p ++ z ∷ more)) None ≡ option_map (λ rest. rest ++ z ∷ more) (cond b (after_front xs p) None)
    by true e = e
    by false e = refl

skipped : (x : NodeName) (xs ys more : List NodeName) → AllByRecursion (λ y. name_eq x y ≡ false) ys → older_nodes (x ∷ xs) (ys ++ more) ≡ older_nodes (x ∷ xs) more
skipped x xs [] more h = refl
skipped x xs (y ∷ ys) more h = ap (λ b. or_later (cond b (after_front xs (ys ++ more)) None) (older_nodes (x ∷ xs) (ys ++ more))) h.0 ∙ skipped x xs ys more h.1

-- What is older than the sources is found before the others or after them.
abbrev pub Around : List NodeName → (p b o : List NodeName) → Option (List NodeName)
Around xs p b o = or_later (option_map (λ rest. rest ++ (b ++ o)) (older_nodes xs p)) (older_nodes xs o)

pub older_around : (x : NodeName) (xs p : List NodeName) (z : NodeName) (zs o : List NodeName) → NoneIn (x ∷ xs) (z ∷ zs) → older_nodes (x ∷ xs) (p ++ ((z ∷ zs) ++ o)) ≡ Around (x ∷ xs) p (z ∷ zs) o
older_around x xs [] z zs o h = skipped x xs (z ∷ zs) o (all_to _ _ (z ∷ zs) (λ y there none. none.0) h)
older_around x xs (y ∷ p) z zs o h =
    (λ i. or_later (front_apart (x ∷ xs) (y ∷ p) z (zs ++ o) h.0 i) (older_around x xs p z zs o h i))
    ∙ by (after_front (x ∷ xs) (y ∷ p))
  where
    by : (f : Option (List NodeName)) → or_later (option_map (λ rest. rest ++ z ∷ (zs ++ o)) f) (or_later (option_map (λ rest. rest ++ ((z ∷ zs) ++ o)) (older_nodes (x ∷ xs) p)) (older_nodes (x ∷ xs) o))
        ≡ or_later (option_map (λ rest. rest ++ ((z ∷ zs) ++ o)) (or_later f (older_nodes (x ∷ xs) p))) (older_nodes (x ∷ xs) o)
    by None = refl
    by (Some rest) = refl

-- ---- a run in place of others

-- Names that reach the oldest flush around other names do so around a run in place of these.
reaches_around : (x : NodeName) (xs p : List NodeName) (z : NodeName) (zs o : List NodeName) (id : ℕ) → IsTrue (reaches_oldest (x ∷ xs) (Around (x ∷ xs) p (z ∷ zs) o)) → IsTrue (reaches_oldest (x ∷ xs) (Around (x ∷ xs) p (Run id ∷ []) o))
reaches_around x xs p z zs o id h = by (older_nodes (x ∷ xs) p) h
  where
    or_true : (a : Bool) → IsTrue (a || true)
    or_true true = refl
    or_true false = refl

    by : (f : Option (List NodeName)) → IsTrue (reaches_oldest (x ∷ xs) (or_later (option_map (λ rest. rest ++ ((z ∷ zs) ++ o)) f) (older_nodes (x ∷ xs) o)))
        → IsTrue (reaches_oldest (x ∷ xs) (or_later (option_map (λ rest. rest ++ ((Run id ∷ []) ++ o)) f) (older_nodes (x ∷ xs) o)))
    by None h = h
    by (Some []) h = or_true (not (list_any is_l0 (x ∷ xs)))
    by (Some (L0 n ∷ rest)) h = h
    by (Some (Run n ∷ rest)) h = h

oldest_around : (x : NodeName) (xs p : List NodeName) (z : NodeName) (zs o : List NodeName) (id : ℕ) → Around (x ∷ xs) p (z ∷ zs) o ≡ Some [] → Around (x ∷ xs) p (Run id ∷ []) o ≡ Some []
oldest_around x xs p z zs o id h = by (older_nodes (x ∷ xs) p) h
  where
    by : (f : Option (List NodeName)) → or_later (option_map (λ rest. rest ++ ((z ∷ zs) ++ o)) f) (older_nodes (x ∷ xs) o) ≡ Some [] → or_later (option_map (λ rest. rest ++ ((Run id ∷ []) ++ o)) f) (older_nodes (x ∷ xs) o) ≡ Some []
    by None h = h
    by (Some []) h = absurd (cc h)
    by (Some (r ∷ rest)) h = absurd (cc h)

three_names : (newer taken older : Tree) → names (newer ++ (taken ++ older)) ≡ names newer ++ (names taken ++ names older)
three_names newer taken older = names_append newer (taken ++ older) ∙ ap (λ ns. names newer ++ ns) (names_append taken older)

pub older_of_three : (x : NodeName) (xs : List NodeName) (newer : Tree) (t : Node) (ts older : Tree) → NoneIn (x ∷ xs) (names (t ∷ ts)) → older_nodes (x ∷ xs) (names (newer ++ ((t ∷ ts) ++ older))) ≡ Around (x ∷ xs) (names newer) (names (t ∷ ts)) (names older)
older_of_three x xs newer t ts older h = ap (older_nodes (x ∷ xs)) (three_names newer (t ∷ ts) older) ∙ older_around x xs (names newer) t.name (names ts) (names older) h

pub stretch_beside_run : (x : NodeName) (xs : List NodeName) (newer : Tree) (t : Node) (ts older : Tree) (run : Node) (id : ℕ) → run.name ≡ Run id → NoneIn (x ∷ xs) (names (t ∷ ts)) → NotIn (x ∷ xs) (Run id)
    → IsTrue (is_whole_stretch (newer ++ ((t ∷ ts) ++ older)) (x ∷ xs)) → IsTrue (is_whole_stretch (newer ++ run ∷ older) (x ∷ xs))
stretch_beside_run x xs newer t ts older run id name none other h =
    subst (λ o. IsTrue (reaches_oldest (x ∷ xs) o)) (sym (older_of_three x xs newer run [] older (subst (NotIn (x ∷ xs)) (sym name) other, tt)))
    (subst (λ n. IsTrue (reaches_oldest (x ∷ xs) (Around (x ∷ xs) (names newer) (n ∷ []) (names older)))) (sym name)
    (reaches_around x xs (names newer) t.name (names ts) (names older) id (subst (λ o. IsTrue (reaches_oldest (x ∷ xs) o)) (older_of_three x xs newer t ts older none) h)))

pub oldest_beside_run : (x : NodeName) (xs : List NodeName) (newer : Tree) (t : Node) (ts older : Tree) (run : Node) (id : ℕ) → run.name ≡ Run id → NoneIn (x ∷ xs) (names (t ∷ ts)) → NotIn (x ∷ xs) (Run id)
    → older_nodes (x ∷ xs) (names (newer ++ ((t ∷ ts) ++ older))) ≡ Some [] → older_nodes (x ∷ xs) (names (newer ++ run ∷ older)) ≡ Some []
oldest_beside_run x xs newer t ts older run id name none other h =
    older_of_three x xs newer run [] older (subst (NotIn (x ∷ xs)) (sym name) other, tt)
    ∙ ap (λ n. Around (x ∷ xs) (names newer) (n ∷ []) (names older)) name
    ∙ oldest_around x xs (names newer) t.name (names ts) (names older) id (sym (older_of_three x xs newer t ts older none) ∙ h)

-- ---- the nodes of the others' sources

find_apart : {A : Type 0} (p : A → Bool) (xs ys zs : List A) → AllByRecursion (λ y. p y ≡ false) ys → find p (xs ++ (ys ++ zs)) ≡ find p (xs ++ zs)
find_apart p [] [] zs h = refl
find_apart p [] (y ∷ ys) zs h = ap (λ b. cond b (Some y) (find p (ys ++ zs))) h.0 ∙ find_apart p [] ys zs h.1
find_apart p (x ∷ xs) ys zs h = ap (λ o. cond (p x) (Some x) o) (find_apart p xs ys zs h)

-- Each of these names finds the same node in both trees.
pub sources_alike : (xs : List NodeName) (one other : Tree) → AllByRecursion (λ x. node_named x one ≡ node_named x other) xs → source_nodes xs one ≡ source_nodes xs other
sources_alike [] one other h = refl
sources_alike (x ∷ xs) one other h = let first = h.0 in let rest = sources_alike xs one other h.1 in λ i. cons_option (first i) (rest i)

pub node_beside_run : (x : NodeName) (newer taken older : Tree) (run : Node) (id : ℕ) → run.name ≡ Run id → AllByRecursion (λ z. name_eq x z ≡ false) (names taken) → name_eq x (Run id) ≡ false
    → node_named x (newer ++ run ∷ older) ≡ node_named x (newer ++ (taken ++ older))
node_beside_run x newer taken older run id name none other =
    find_apart (λ (node : Node). name_eq x node.name) newer (run ∷ []) older (ap (name_eq x) name ∙ other, tt)
    ∙ sym (find_apart (λ (node : Node). name_eq x node.name) newer taken older (all_names (λ z. name_eq x z ≡ false) taken none))

-- The list of lists turned: what no x is, for each z.
turn_none : (xs zs : List NodeName) → NoneIn xs zs → AllByRecursion (λ x. AllByRecursion (λ z. name_eq x z ≡ false) zs) xs
turn_none xs zs h = all_from _ xs (λ x there. all_to _ _ zs (λ z one none. all_at (λ y. name_eq y z ≡ false) xs x none there) h)

pub sources_beside_run : (xs : List NodeName) (newer taken older : Tree) (run : Node) (id : ℕ) → run.name ≡ Run id → NoneIn xs (names taken) → NotIn xs (Run id)
    → source_nodes xs (newer ++ run ∷ older) ≡ source_nodes xs (newer ++ (taken ++ older))
sources_beside_run xs newer taken older run id name none other =
    sources_alike xs (newer ++ run ∷ older) (newer ++ (taken ++ older)) (all_to _ _ xs (λ x there z. node_beside_run x newer taken older run id name z (all_at (λ y. name_eq y (Run id) ≡ false) xs x other there)) (turn_none xs (names taken) none))

-- ---- nodes taken out

find_filter : {A : Type 0} (p keep : A → Bool) (xs : List A) → ((x : A) → p x ≡ true → keep x ≡ true) → find p (filter keep xs) ≡ find p xs
find_filter p keep [] h = refl
find_filter p keep (x ∷ xs) h = by (keep x) refl (p x) refl (find_filter p keep xs h)
  where
    by : (b : Bool) → keep x ≡ b → (c : Bool) → p x ≡ c → find p (filter keep xs) ≡ find p xs → find p (cond b (x ∷ filter keep xs) (filter keep xs)) ≡ cond c (Some x) (find p xs)
    by true k c e rest = (λ i. cond (e i) (Some x) (rest i))
    by false k true e rest = absurd (never_both (keep x) (h x e) k)
    by false k false e rest = rest

pub node_not_out : (x : NodeName) (out : List NodeName) (tree : Tree) → names_contain out x ≡ false → node_named x (without_nodes out tree) ≡ node_named x tree
node_not_out x out tree none = find_filter (λ (node : Node). name_eq x node.name) (λ (node : Node). not (names_contain out node.name)) tree (λ node same. ap not (ap (names_contain out) (sym (name_same x node.name same)) ∙ none))

pub sources_not_out : (xs out : List NodeName) (tree : Tree) → AllByRecursion (λ x. names_contain out x ≡ false) xs → source_nodes xs (without_nodes out tree) ≡ source_nodes xs tree
sources_not_out xs out tree h = sources_alike xs (without_nodes out tree) tree (all_to _ _ xs (λ x there none. node_not_out x out tree none) h)

pub after_itself : (xs o : List NodeName) → after_front xs (xs ++ o) ≡ Some o
after_itself [] o = refl
after_itself (x ∷ xs) o = ap (λ b. cond b (after_front xs (xs ++ o)) None) (name_itself x) ∙ after_itself xs o

-- Where nodes with their own names stand, what is older than them is what follows them.
pub older_here : (newer : Tree) (t : Node) (ts older : Tree) → Named (newer ++ ((t ∷ ts) ++ older)) → older_nodes (names (t ∷ ts)) (names (newer ++ ((t ∷ ts) ++ older))) ≡ Some (names older)
older_here newer t ts older named =
    ap (older_nodes (names (t ∷ ts))) (three_names newer (t ∷ ts) older)
    ∙ skipped t.name (names ts) (names newer) (names (t ∷ ts) ++ names older) (differ newer (λ n there. name_turned n.name t.name (pairs_of (λ (a b : Node). name_eq a.name b.name ≡ false) newer ((t ∷ ts) ++ older) n t named there (inl refl))))
    ∙ ap (λ o. or_later o (older_nodes (names (t ∷ ts)) (names ts ++ names older))) (after_itself (names (t ∷ ts)) (names older))
  where
    differ : (ns : Tree) → ((n : Node) → IsIn n ns → name_eq t.name n.name ≡ false) → AllByRecursion (λ y. name_eq t.name y ≡ false) (names ns)
    differ [] h = tt
    differ (n ∷ ns) h = (h n (inl refl), differ ns (λ m there. h m (inr there)))

none_out : (out : List NodeName) (taken : Tree) → AllByRecursion (λ x. names_contain out x ≡ false) (names taken) → AllByRecursion (λ (node : Node). not (names_contain out node.name) ≡ true) taken
none_out out [] h = tt
none_out out (node ∷ taken) h = (ap not h.0, none_out out taken h.1)

-- A stretch of which no node is taken out stays one.
pub stretch_left : (out : List NodeName) (xs : List NodeName) (tree : Tree) (s : Stretch xs tree) → AllByRecursion (λ x. names_contain out x ≡ false) xs → without_nodes out tree ≡ without_nodes out s.newer ++ (s.taken ++ without_nodes out s.older)
stretch_left out xs tree s h =
    let p : Node → Bool = λ node. not (names_contain out node.name) in
    let kept : filter p s.taken ≡ s.taken = filter_all p s.taken (none_out out s.taken (subst (AllByRecursion (λ x. names_contain out x ≡ false)) (sym s.named) h)) in
    ap (filter p) s.whole ∙ filter_append p s.newer (s.taken ++ s.older) ∙ ap (λ nodes. filter p s.newer ++ nodes) (filter_append p s.taken s.older ∙ ap (λ nodes. nodes ++ filter p s.older) kept)

-- When other nodes are taken out, the nodes older than a stretch are those that were older and are left.
pub older_left : (out : List NodeName) (x : NodeName) (xs : List NodeName) (tree : Tree) (s : Stretch (x ∷ xs) tree) → Named tree → AllByRecursion (λ y. names_contain out y ≡ false) (x ∷ xs)
    → older_nodes (x ∷ xs) (names (without_nodes out tree)) ≡ Some (names (without_nodes out s.older))
older_left out x xs tree s named h = by s.taken refl s.named
  where
    left : Named (without_nodes out s.newer ++ (s.taken ++ without_nodes out s.older))
    left = subst Named (stretch_left out (x ∷ xs) tree s h) (pairs_filter (λ (a b : Node). name_eq a.name b.name ≡ false) (λ (node : Node). not (names_contain out node.name)) tree named)

    by : (taken : Tree) → s.taken ≡ taken → names taken ≡ x ∷ xs → older_nodes (x ∷ xs) (names (without_nodes out tree)) ≡ Some (names (without_nodes out s.older))
    by [] e n = absurd (cc n)
    by (t ∷ ts) e n =
        subst (λ ns. older_nodes ns (names (without_nodes out tree)) ≡ Some (names (without_nodes out s.older))) n
        (ap (λ nodes. older_nodes (names (t ∷ ts)) (names nodes)) (stretch_left out (x ∷ xs) tree s h ∙ ap (λ nodes. without_nodes out s.newer ++ (nodes ++ without_nodes out s.older)) e)
        ∙ older_here (without_nodes out s.newer) t ts (without_nodes out s.older) (subst (λ nodes. Named (without_nodes out s.newer ++ (nodes ++ without_nodes out s.older))) e left))
