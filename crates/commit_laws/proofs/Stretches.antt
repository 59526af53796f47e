-- The sources of a job are a stretch of a tree: the tree is what is newer, the stretch, and what is older. A run replaces the stretch where it is.
use Rattle.std.proofs.Common.{◌≡◌, refl, sym, ◌∙◌, ap, subst, ℕ, List, [], ◌∷◌, ◌++◌, cond, Bool, true, false, inl, inr, Option, Some, None, arith}
use Rattle.std.specs.Prelude.{IsTrue, ◌&&◌, ◌||◌, not, filter, nat_lt, nat_le}
use Rattle.std.specs.List.{AllByRecursion, list_any, list_all, cons_option}
use Rattle.std.proofs.lemmas.Bool.Decides.{Decides-eqb}
use Rattle.std.proofs.lemmas.Bool.{lt-ltb, le-ltb, ltb-true}
use Rattle.row_model.specs.Lists.{Pairs}
use Rattle.fleet_model.specs.Nodes.{NodeName, L0, Run, name_eq, is_l0, names_contain, Node, Tree, names, node_named}
use Rattle.fleet_model.specs.Jobs.{contains}
use Rattle.fleet_model.specs.Sources.{run_ids, after_front, or_later, older_nodes, begins_with_run, reaches_oldest, is_lowest_or_above}
use Rattle.fleet_model.specs.Trees.{source_nodes, without_nodes, is_run_below, put_run}
use Rattle.fleet_model.specs.Invariants.TreesFit.{StandsBefore}
use Rattle.step_laws.proofs.Elements.{IsIn, all_at, all_from, all_to, all_append, all_front, all_back, in_front, contains_in}

-- ---- names

pub name_same : (x y : NodeName) → name_eq x y ≡ true → x ≡ y
name_same (L0 a) (L0 b) e = ap L0 ((Decides-eqb a b).0 e)
name_same (L0 a) (Run b) e = absurd (cc e)
name_same (Run a) (L0 b) e = absurd (cc e)
name_same (Run a) (Run b) e = ap Run ((Decides-eqb a b).0 e)

pub name_itself : (x : NodeName) → name_eq x x ≡ true
name_itself (L0 a) = (Decides-eqb a a).1 refl
name_itself (Run a) = (Decides-eqb a a).1 refl

pub other_or : (b : Bool) → (b ≡ true → ⊥) → b ≡ false
other_or true h = absurd (h refl)
other_or false h = refl

pub never_both : (b : Bool) → b ≡ true → b ≡ false → ⊥
never_both true e f = absurd (cc f)
never_both false e f = absurd (cc e)

pub name_turned : (x y : NodeName) → name_eq x y ≡ false → name_eq y x ≡ false
name_turned x y e = other_or (name_eq y x) (λ same. never_both (name_eq x y) (ap (name_eq x) (name_same y x same) ∙ name_itself x) e)

pub names_in : (xs : List NodeName) (x : NodeName) → names_contain xs x ≡ true → IsIn x xs
names_in [] x e = absurd (cc e)
names_in (y ∷ xs) x e = by (name_eq y x) refl (names_in xs x) e
  where
    by : (b : Bool) → name_eq y x ≡ b → (names_contain xs x ≡ true → IsIn x xs) → cond b true (names_contain xs x) ≡ true → IsIn x (y ∷ xs)
    by true f rest e = inl (name_same y x f)
    by false f rest e = inr (rest e)

pub in_names : (xs : List NodeName) (x : NodeName) → IsIn x xs → names_contain xs x ≡ true
in_names [] x there = absurd there
in_names (y ∷ xs) x (inl same) = ap (λ b. cond b true (names_contain xs x)) (ap (name_eq y) (sym same) ∙ name_itself y)
in_names (y ∷ xs) x (inr there) = by (name_eq y x) (in_names xs x there)
  where
    by : (b : Bool) → names_contain xs x ≡ true → cond b true (names_contain xs x) ≡ true
    by true e = refl
    by false e = e

pub names_no : (xs : List NodeName) (x : NodeName) → (IsIn x xs → ⊥) → names_contain xs x ≡ false
names_no xs x h = other_or (names_contain xs x) (λ e. h (names_in xs x e))

pub names_append : (xs ys : Tree) → names (xs ++ ys) ≡ names xs ++ names ys
names_append [] ys = refl
names_append (x ∷ xs) ys = ap (λ ns. x.name ∷ ns) (names_append xs ys)

pub node_in_names : (tree : Tree) (node : Node) → IsIn node tree → IsIn node.name (names tree)
node_in_names [] node there = absurd there
node_in_names (x ∷ tree) node (inl same) = inl (ap (λ (n : Node). n.name) same)
node_in_names (x ∷ tree) node (inr there) = inr (node_in_names tree node there)

-- A name of a tree is that of one of its nodes.
pub record NodeOf (tree : Tree) (name : NodeName) : Type 0 where
  pub node : Node
  pub there : IsIn node tree
  pub same : node.name ≡ name

pub node_of : (tree : Tree) (name : NodeName) → IsIn name (names tree) → NodeOf tree name
node_of [] name there = absurd there
node_of (x ∷ tree) name (inl same) = record { node = x; there = inl refl; same = same }
node_of (x ∷ tree) name (inr there) = let found = node_of tree name there in record { node = found.node; there = inr found.there; same = found.same }

-- ---- every two of a list in parts

pub pairs_first : {A : Type 0} (R : A → A → Type 0) (xs ys : List A) → Pairs R (xs ++ ys) → Pairs R xs
pairs_first R [] ys h = tt
pairs_first R (x ∷ xs) ys h = (all_front (R x) xs ys h.0, pairs_first R xs ys h.1)

pub pairs_second : {A : Type 0} (R : A → A → Type 0) (xs ys : List A) → Pairs R (xs ++ ys) → Pairs R ys
pairs_second R [] ys h = h
pairs_second R (x ∷ xs) ys h = pairs_second R xs ys h.1

pub pairs_across : {A : Type 0} (R : A → A → Type 0) (xs ys : List A) → Pairs R (xs ++ ys) → AllByRecursion (λ x. AllByRecursion (R x) ys) xs
pairs_across R [] ys h = tt
pairs_across R (x ∷ xs) ys h = (all_back (R x) xs ys h.0, pairs_across R xs ys h.1)

pub pairs_append : {A : Type 0} (R : A → A → Type 0) (xs ys : List A) → Pairs R xs → Pairs R ys → AllByRecursion (λ x. AllByRecursion (R x) ys) xs → Pairs R (xs ++ ys)
pairs_append R [] ys h k across = k
pairs_append R (x ∷ xs) ys h k across = (all_append (R x) xs ys h.0 across.0, pairs_append R xs ys h.1 k across.1)

pub pairs_of : {A : Type 0} (R : A → A → Type 0) (xs : List A) (ys : List A) (x y : A) → Pairs R (xs ++ ys) → IsIn x xs → IsIn y ys → R x y
pairs_of R xs ys x y h one other = all_at (R x) ys y (all_at (λ z. AllByRecursion (R z) ys) xs x (pairs_across R xs ys h) one) other

-- Every two elements of a filtered list are related, if every two of the list are.
pub pairs_filter : {A : Type 0} (R : A → A → Type 0) (p : A → Bool) (xs : List A) → Pairs R xs → Pairs R (filter p xs)
pairs_filter R p [] h = tt
pairs_filter {A} R p (x ∷ xs) h = by (p x) (pairs_filter R p xs h.1)
  where
    some : (P : A → Type 0) → (ys : List A) → AllByRecursion P ys → AllByRecursion P (filter p ys)
    some P [] h = tt
    some P (y ∷ ys) h = each (p y) (some P ys h.1)
      where
        each : (b : Bool) → AllByRecursion P (filter p ys) → AllByRecursion P (cond b (y ∷ filter p ys) (filter p ys))
        each true rest = (h.0, rest)
        each false rest = rest

    by : (b : Bool) → Pairs R (filter p xs) → Pairs R (cond b (x ∷ filter p xs) (filter p xs))
    by true rest = (some (R x) xs h.0, rest)
    by false rest = rest

-- A relation between every two goes on if one element replaces some that lie together.
pub pairs_replaced : {A : Type 0} (R : A → A → Type 0) (newer taken older : List A) (x : A) → Pairs R (newer ++ (taken ++ older)) → AllByRecursion (λ n. R n x) newer → AllByRecursion (R x) older
    → Pairs R (newer ++ x ∷ older)
pairs_replaced R newer taken older x h before afterwards =
    let rest = pairs_second R newer (taken ++ older) h in
    let across = pairs_across R newer (taken ++ older) h in
    pairs_append R newer (x ∷ older) (pairs_first R newer (taken ++ older) h) (afterwards, pairs_second R taken older rest)
    (all_from (λ n. AllByRecursion (R n) (x ∷ older)) newer (λ n there. (all_at (λ m. R m x) newer n before there, all_back (R n) taken older (all_at (λ m. AllByRecursion (R m) (taken ++ older)) newer n across there))))

pub all_replaced : {A : Type 0} (P : A → Type 0) (newer taken older : List A) (x : A) → AllByRecursion P (newer ++ (taken ++ older)) → P x → AllByRecursion P (newer ++ x ∷ older)
all_replaced P newer taken older x h new = all_append P newer (x ∷ older) (all_front P newer (taken ++ older) h) (new, all_back P taken older (all_back P newer (taken ++ older) h))

pub all_taken : {A : Type 0} (P : A → Type 0) (newer taken older : List A) → AllByRecursion P (newer ++ (taken ++ older)) → AllByRecursion P taken
all_taken P newer taken older h = all_front P taken older (all_back P newer (taken ++ older) h)

-- ---- a stretch

-- All nodes have names of their own.
abbrev pub Named : Tree → Type 0
Named tree = Pairs (λ (a b : Node). name_eq a.name b.name ≡ false) tree

-- The sources are a stretch of the tree, with these older nodes.
pub record Stretch (sources : List NodeName) (tree : Tree) : Type 0 where
  pub newer : Tree
  pub taken : Tree
  pub older : Tree
  pub whole : tree ≡ newer ++ (taken ++ older)
  pub named : names taken ≡ sources
  pub rest : older_nodes sources (names tree) ≡ Some (names older)

pub record Front (sources : List NodeName) (tree : Tree) (rest : List NodeName) : Type 0 where
  pub taken : Tree
  pub older : Tree
  pub whole : tree ≡ taken ++ older
  pub named : names taken ≡ sources
  pub left : names older ≡ rest

some_same : {A : Type 0} (x y : A) → Some x ≡ Some y → x ≡ y
some_same x y e = cc e

-- A tree whose names begin with the sources has their nodes first and then the nodes of the remaining names.
pub front_of : (sources : List NodeName) (tree : Tree) (rest : List NodeName) → after_front sources (names tree) ≡ Some rest → Front sources tree rest
front_of [] tree rest e = record { taken = []; older = tree; whole = refl; named = refl; left = some_same (names tree) rest e }
front_of (x ∷ xs) [] rest e = absurd (cc e)
front_of (x ∷ xs) (node ∷ tree) rest e = by (name_eq x node.name) refl (front_of xs tree rest) e
  where
    with_first : x ≡ node.name → Front xs tree rest → Front (x ∷ xs) (node ∷ tree) rest
    with_first same f = record {
      taken = node ∷ f.taken;
      older = f.older;
      whole = ap (λ nodes. node ∷ nodes) f.whole;
      named = let named = f.named in λ i. sym same i ∷ named i;
      left = f.left;
    }

    by : (b : Bool) → name_eq x node.name ≡ b → (after_front xs (names tree) ≡ Some rest → Front xs tree rest) → cond b (after_front xs (names tree)) None ≡ Some rest → Front (x ∷ xs) (node ∷ tree) rest
    by true same more e = with_first (name_same x node.name same) (more e)
    by false same more e = absurd (cc e)

-- Sources that lie one after the other in the names of a tree are a stretch of the tree.
pub stretch_of : (sources : List NodeName) (tree : Tree) (rest : List NodeName) → older_nodes sources (names tree) ≡ Some rest → Stretch sources tree
stretch_of sources [] rest e =
    let f = front_of sources [] rest e in
    record { newer = []; taken = f.taken; older = f.older; whole = f.whole; named = f.named; rest = e ∙ ap Some (sym f.left) }
stretch_of sources (node ∷ tree) rest e = by (after_front sources (names (node ∷ tree))) refl (stretch_of sources tree rest) e
  where
    afterwards : after_front sources (names (node ∷ tree)) ≡ None → Stretch sources tree → Stretch sources (node ∷ tree)
    afterwards none s = record {
      newer = node ∷ s.newer;
      taken = s.taken;
      older = s.older;
      whole = ap (λ nodes. node ∷ nodes) s.whole;
      named = s.named;
      rest = ap (λ o. or_later o (older_nodes sources (names tree))) none ∙ s.rest;
    }

    here : (found : List NodeName) → after_front sources (names (node ∷ tree)) ≡ Some found → Stretch sources (node ∷ tree)
    here found f =
        let front = front_of sources (node ∷ tree) found f in
        record { newer = []; taken = front.taken; older = front.older; whole = front.whole; named = front.named; rest = ap (λ o. or_later o (older_nodes sources (names tree))) f ∙ ap Some (sym front.left) }

    by : (o : Option (List NodeName)) → after_front sources (names (node ∷ tree)) ≡ o → (older_nodes sources (names tree) ≡ Some rest → Stretch sources tree) → or_later o (older_nodes sources (names tree)) ≡ Some rest → Stretch sources (node ∷ tree)
    by None none more e = afterwards none (more e)
    by (Some found) f more e = here found f

-- ---- the stretch taken out

pub filter_append : {A : Type 0} (p : A → Bool) (xs ys : List A) → filter p (xs ++ ys) ≡ filter p xs ++ filter p ys
filter_append p [] ys = refl
filter_append p (x ∷ xs) ys = by (p x) (filter_append p xs ys)
  where
    by : (b : Bool) → filter p (xs ++ ys) ≡ filter p xs ++ filter p ys → cond b (x ∷ filter p (xs ++ ys)) (filter p (xs ++ ys)) ≡ cond b (x ∷ filter p xs) (filter p xs) ++ filter p ys
    by true e = ap (λ zs. x ∷ zs) e
    by false e = e

pub filter_all : {A : Type 0} (p : A → Bool) (xs : List A) → AllByRecursion (λ x. p x ≡ true) xs → filter p xs ≡ xs
filter_all p [] h = refl
filter_all p (x ∷ xs) h = ap (λ b. cond b (x ∷ filter p xs) (filter p xs)) h.0 ∙ ap (λ ys. x ∷ ys) (filter_all p xs h.1)

pub filter_none : {A : Type 0} (p : A → Bool) (xs : List A) → AllByRecursion (λ x. p x ≡ false) xs → filter p xs ≡ []
filter_none p [] h = refl
filter_none p (x ∷ xs) h = ap (λ b. cond b (x ∷ filter p xs) (filter p xs)) h.0 ∙ filter_none p xs h.1

-- No node of these has a name of those.
not_among : (xs ys : Tree) → ((x y : Node) → IsIn x xs → IsIn y ys → name_eq y.name x.name ≡ false) → AllByRecursion (λ x. not (names_contain (names ys) x.name) ≡ true) xs
not_among xs ys differ = all_from _ xs (λ x there. ap not (names_no (names ys) x.name (λ one.
    let found = node_of ys x.name one in
    never_both (name_eq found.node.name x.name) (ap (λ n. name_eq n x.name) found.same ∙ name_itself x.name) (differ x found.node there found.there))))

pub without_stretch : (newer taken older : Tree) → Named (newer ++ (taken ++ older)) → without_nodes (names taken) (newer ++ (taken ++ older)) ≡ newer ++ older
without_stretch newer taken older h =
    let p : Node → Bool = λ node. not (names_contain (names taken) node.name) in
    let rest = pairs_second (λ (a b : Node). name_eq a.name b.name ≡ false) newer (taken ++ older) h in
    let first : filter p newer ≡ newer = filter_all p newer (not_among newer taken (λ x y one other. name_turned x.name y.name (pairs_of (λ (a b : Node). name_eq a.name b.name ≡ false) newer (taken ++ older) x y h one (in_front y taken older other)))) in
    let none : filter p taken ≡ [] = filter_none p taken (all_from _ taken (λ x there. ap not (in_names (names taken) x.name (node_in_names taken x there)))) in
    let last : filter p older ≡ older = filter_all p older (not_among older taken (λ x y one other. pairs_of (λ (a b : Node). name_eq a.name b.name ≡ false) taken older y x rest other one)) in
    filter_append p newer (taken ++ older) ∙ (λ i. first i ++ (filter_append p taken older ∙ (λ j. none j ++ last j)) i)

-- ---- the nodes of the stretch

pub named_in : (tree : Tree) (node : Node) → Named tree → IsIn node tree → node_named node.name tree ≡ Some node
named_in [] node h there = absurd there
named_in (x ∷ tree) node h (inl same) = subst (λ (n : Node). node_named n.name (x ∷ tree) ≡ Some n) same (ap (λ b. cond b (Some x) (node_named x.name tree)) (name_itself x.name))
named_in (x ∷ tree) node h (inr there) =
    ap (λ b. cond b (Some x) (node_named node.name tree)) (name_turned x.name node.name (all_at (λ (y : Node). name_eq x.name y.name ≡ false) tree node h.0 there)) ∙ named_in tree node h.1 there

pub nodes_named : (tree taken : Tree) → Named tree → ((node : Node) → IsIn node taken → IsIn node tree) → source_nodes (names taken) tree ≡ taken
nodes_named tree [] h there = refl
nodes_named tree (x ∷ taken) h there =
    let first = named_in tree x h (there x (inl refl)) in
    let rest = nodes_named tree taken h (λ node one. there node (inr one)) in
    λ i. cons_option (first i) (rest i)

-- ---- where the run is put

-- The run stands after the newer nodes and before the older ones.
pub record Between (id : ℕ) (newer older : Tree) : Type 0 where
  pub afterwards : AllByRecursion (λ (n : Node). StandsBefore n.name (Run id)) newer
  pub before : AllByRecursion (λ (o : Node). StandsBefore (Run id) o.name) older

not_below : (id : ℕ) (name : NodeName) → StandsBefore name (Run id) → is_run_below id name ≡ false
not_below id (L0 n) h = refl
not_below id (Run n) h = le-ltb n id (omega (arith, h))

below : (id : ℕ) (name : NodeName) → StandsBefore (Run id) name → is_run_below id name ≡ true
below id (L0 n) h = absurd h
below id (Run n) h = lt-ltb n id h

pub put_between : (id : ℕ) (run : Node) (newer older : Tree) → Between id newer older → put_run id run (newer ++ older) ≡ newer ++ run ∷ older
put_between id run [] [] h = refl
put_between id run [] (o ∷ older) h = ap (λ b. cond b (run ∷ o ∷ older) (o ∷ put_run id run older)) (below id o.name h.before.0)
put_between id run (n ∷ newer) older h =
    ap (λ b. cond b (run ∷ n ∷ (newer ++ older)) (n ∷ put_run id run (newer ++ older))) (not_below id n.name h.afterwards.0)
    ∙ ap (λ nodes. n ∷ nodes) (put_between id run newer older (record { afterwards = h.afterwards.1; before = h.before }))

-- ---- names of nodes in order

pub all_names : (P : NodeName → Type 0) (tree : Tree) → AllByRecursion P (names tree) → AllByRecursion (λ (node : Node). P node.name) tree
all_names P [] h = tt
all_names P (node ∷ tree) h = (h.0, all_names P tree h.1)

pub names_all : (P : NodeName → Type 0) (tree : Tree) → AllByRecursion (λ (node : Node). P node.name) tree → AllByRecursion P (names tree)
names_all P [] h = tt
names_all P (node ∷ tree) h = (h.0, names_all P tree h.1)

pub pairs_names : (R : NodeName → NodeName → Type 0) (tree : Tree) → Pairs R (names tree) → Pairs (λ (a b : Node). R a.name b.name) tree
pairs_names R [] h = tt
pairs_names R (node ∷ tree) h = (all_names (R node.name) tree h.0, pairs_names R tree h.1)

pub names_pairs : (R : NodeName → NodeName → Type 0) (tree : Tree) → Pairs (λ (a b : Node). R a.name b.name) tree → Pairs R (names tree)
names_pairs R [] h = tt
names_pairs R (node ∷ tree) h = (names_all (R node.name) tree h.0, names_pairs R tree h.1)

pub run_in : (ns : List NodeName) (id : ℕ) → IsIn id (run_ids ns) → IsIn (Run id) ns
run_in [] id there = absurd there
run_in (L0 n ∷ ns) id there = inr (run_in ns id there)
run_in (Run n ∷ ns) id (inl same) = inl (ap Run same)
run_in (Run n ∷ ns) id (inr there) = inr (run_in ns id there)

pub in_runs : (ns : List NodeName) (id : ℕ) → IsIn (Run id) ns → IsIn id (run_ids ns)
in_runs [] id there = absurd there
in_runs (L0 n ∷ ns) id (inl same) = absurd (cc same)
in_runs (L0 n ∷ ns) id (inr there) = in_runs ns id there
in_runs (Run n ∷ ns) id (inl same) = inl (cc same)
in_runs (Run n ∷ ns) id (inr there) = inr (in_runs ns id there)

pub all_flushes : (ns : List NodeName) → run_ids ns ≡ [] → AllByRecursion (λ x. is_l0 x ≡ true) ns
all_flushes [] e = tt
all_flushes (L0 n ∷ ns) e = (refl, all_flushes ns e)
all_flushes (Run n ∷ ns) e = absurd (cc e)

before_flush : (x t : NodeName) (id : ℕ) → StandsBefore x t → is_l0 t ≡ true → StandsBefore x (Run id)
before_flush (L0 n) t id h e = tt
before_flush (Run n) (L0 m) id h e = absurd h
before_flush (Run n) (Run m) id h e = absurd (cc e)

after_run : (b : ℕ) (y : NodeName) → StandsBefore (Run b) y → is_l0 y ≡ false
after_run b (L0 n) h = absurd h
after_run b (Run n) h = refl

pub both_true : (a b : Bool) → IsTrue (a && b) → IsTrue a × IsTrue b
both_true true b h = (refl, h)
both_true false b h = absurd (cc h)

-- Runs whose ids are all below this one stand after it.
pub low_runs : (id : ℕ) (ns : List NodeName) → IsTrue (list_all (λ run. nat_lt run id) (run_ids ns)) → AllByRecursion (λ x. is_l0 x ≡ false → StandsBefore (Run id) x) ns
low_runs id [] h = tt
low_runs id (L0 n ∷ ns) h = ((λ e. absurd (cc e)), low_runs id ns h)
low_runs id (Run n ∷ ns) h = let parts = both_true (nat_lt n id) (list_all (λ run. nat_lt run id) (run_ids ns)) h in ((λ e. ltb-true n id parts.0), low_runs id ns parts.1)

pub begins_runs : (older : Tree) → IsTrue (begins_with_run (names older)) → Pairs (λ (a b : Node). StandsBefore a.name b.name) older → AllByRecursion (λ (o : Node). is_l0 o.name ≡ false) older
begins_runs [] h order = tt
begins_runs (o ∷ older) h order = by o.name h order.0
  where
    by : (n : NodeName) → IsTrue (begins_with_run (n ∷ names older)) → AllByRecursion (λ (y : Node). StandsBefore n y.name) older → (is_l0 n ≡ false) × AllByRecursion (λ (y : Node). is_l0 y.name ≡ false) older
    by (L0 n) h afterwards = absurd (cc h)
    by (Run n) h afterwards = (refl, all_to _ _ older (λ y there after. after_run n y.name after) afterwards)

-- The names of a tree are in order.
abbrev pub InOrder : Tree → Type 0
InOrder tree = Pairs (λ (a b : Node). StandsBefore a.name b.name) tree

-- A run that a job makes of its sources stands where they stood.
pub between_of : (id : ℕ) (newer : Tree) (t : Node) (ts older : Tree) → InOrder (newer ++ ((t ∷ ts) ++ older)) → IsTrue (reaches_oldest (names (t ∷ ts)) (Some (names older)))
    → IsTrue (is_lowest_or_above id (run_ids (names (t ∷ ts))) (run_ids (names (newer ++ ((t ∷ ts) ++ older))))) → Between id newer older
between_of id newer t ts older order reaches lowest = by (run_ids (names (t ∷ ts))) refl lowest
  where
    before : (x y : Node) → IsIn x newer → IsIn y (t ∷ ts) → StandsBefore x.name y.name
    before x y one other = pairs_of (λ (a b : Node). StandsBefore a.name b.name) newer ((t ∷ ts) ++ older) x y order one (in_front y (t ∷ ts) older other)

    after : (y o : Node) → IsIn y (t ∷ ts) → IsIn o older → StandsBefore y.name o.name
    after y o one other = pairs_of (λ (a b : Node). StandsBefore a.name b.name) (t ∷ ts) older y o (pairs_second (λ (a b : Node). StandsBefore a.name b.name) newer ((t ∷ ts) ++ older) order) one other

    begins : (b : Bool) → is_l0 t.name ≡ true → IsTrue (not (is_l0 t.name || list_any is_l0 (names ts)) || b) → IsTrue b
    begins b flush h = subst (λ c. IsTrue (not (c || list_any is_l0 (names ts)) || b)) flush h

    flushes_only : run_ids (names (t ∷ ts)) ≡ [] → IsTrue (list_all (λ run. nat_lt run id) (run_ids (names (newer ++ ((t ∷ ts) ++ older))))) → Between id newer older
    flushes_only none low =
        let flush = (all_flushes (names (t ∷ ts)) none).0 in
        let runs = begins_runs older (begins (begins_with_run (names older)) flush reaches) (pairs_second (λ (a b : Node). StandsBefore a.name b.name) (t ∷ ts) older (pairs_second (λ (a b : Node). StandsBefore a.name b.name) newer ((t ∷ ts) ++ older) order)) in
        let lows = all_names (λ x. is_l0 x ≡ false → StandsBefore (Run id) x) (newer ++ ((t ∷ ts) ++ older)) (low_runs id (names (newer ++ ((t ∷ ts) ++ older))) low) in
        record {
          afterwards = all_from _ newer (λ x there. before_flush x.name t.name id (before x t there (inl refl)) flush);
          before = all_from _ older (λ o there. all_at (λ (n : Node). is_l0 n.name ≡ false → StandsBefore (Run id) n.name) older o (all_back _ (t ∷ ts) older (all_back _ newer ((t ∷ ts) ++ older) lows)) there (all_at (λ (n : Node). is_l0 n.name ≡ false) older o runs there));
        }

    of_run : NodeOf (t ∷ ts) (Run id) → Between id newer older
    of_run found = record {
      afterwards = all_from _ newer (λ x there. subst (StandsBefore x.name) found.same (before x found.node there found.there));
      before = all_from _ older (λ o there. subst (λ n. StandsBefore n o.name) found.same (after found.node o found.there there));
    }

    by : (ids : List ℕ) → run_ids (names (t ∷ ts)) ≡ ids → IsTrue (is_lowest_or_above id ids (run_ids (names (newer ++ ((t ∷ ts) ++ older))))) → Between id newer older
    by [] e low = flushes_only e low
    by (run ∷ runs) e low = of_run (node_of (t ∷ ts) (Run id) (run_in (names (t ∷ ts)) id (rw e (contains_in (run ∷ runs) id (both_true (contains (run ∷ runs) id) (list_all (nat_le id) (run ∷ runs)) low).0))))
