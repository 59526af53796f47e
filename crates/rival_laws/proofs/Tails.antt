-- Names at the end of a tree: no node is older than they are.
use Rattle.std.proofs.Common.{◌≡◌, refl, sym, ◌∙◌, ap, subst, ℕ, ◌<◌, List, [], ◌∷◌, ◌++◌, cond, Bool, true, false, inl, inr, ◌⊎◌, Option, Some, None, arith}
use Rattle.std.specs.Prelude.{IsTrue, ◌&&◌, ◌||◌, not, nat_lt}
use Rattle.std.specs.List.{AllByRecursion, list_any}
use Rattle.std.proofs.lemmas.Bool.{ltb-true, lt-ltb}
use Rattle.std.proofs.lemmas.Bool.Decides.{Decides-eqb}
use Rattle.row_model.specs.Lists.{Pairs}
use Rattle.fleet_model.specs.Nodes.{NodeName, L0, Run, name_eq, is_l0, names_contain, Node, Tree, names}
use Rattle.fleet_model.specs.Trees.{without_nodes, put_run, is_run_below}
use Rattle.fleet_model.specs.Work.Gates.{is_nonempty}
use Rattle.fleet_model.specs.Sources.{run_ids, after_front, or_later, older_nodes, begins_with_run, reaches_oldest, is_lowest_or_above, is_apart}
use Rattle.fleet_model.specs.Invariants.TreesFit.{StandsBefore}
use Rattle.step_laws.proofs.Elements.{IsIn, all_at, all_true_front, contains_in, in_back}

-- ---- names

name_same : (a b : NodeName) → name_eq a b ≡ true → a ≡ b
name_same (L0 a) (L0 b) e = ap L0 ((Decides-eqb a b).0 e)
name_same (Run a) (Run b) e = ap Run ((Decides-eqb a b).0 e)
name_same (L0 a) (Run b) e = absurd (cc e)
name_same (Run a) (L0 b) e = absurd (cc e)

same_name : (a : NodeName) → name_eq a a ≡ true
same_name (L0 a) = (Decides-eqb a a).1 refl
same_name (Run a) = (Decides-eqb a a).1 refl

names_in : (xs : List NodeName) (x : NodeName) → IsTrue (names_contain xs x) → IsIn x xs
names_in [] x h = absurd (cc h)
names_in (y ∷ xs) x h = by (name_eq y x) refl (names_in xs x) h
  where
    by : (b : Bool) → name_eq y x ≡ b → (IsTrue (names_contain xs x) → IsIn x xs) → IsTrue (cond b true (names_contain xs x)) → IsIn x (y ∷ xs)
    by true e rest h = inl (name_same y x e)
    by false e rest h = inr (rest h)

in_names : (xs : List NodeName) (x : NodeName) → IsIn x xs → IsTrue (names_contain xs x)
in_names [] x there = absurd there
in_names (y ∷ xs) x (inl same) = ap (λ b. cond b true (names_contain xs x)) (subst (λ z. name_eq y z ≡ true) same (same_name y))
in_names (y ∷ xs) x (inr there) = by (name_eq y x) (in_names xs x there)
  where
    by : (b : Bool) → IsTrue (names_contain xs x) → IsTrue (cond b true (names_contain xs x))
    by true h = refl
    by false h = h

pub apart_names : (xs ys : List NodeName) → IsTrue (is_apart xs ys) → (x : NodeName) → IsIn x xs → IsIn x ys → ⊥
apart_names xs ys h x there other = never (names_contain ys x) (all_at (λ y. IsTrue (not (names_contain ys y))) xs x (all_true_front (λ y. not (names_contain ys y)) xs h) there) (in_names ys x other)
  where
    never : (b : Bool) → IsTrue (not b) → IsTrue b → ⊥
    never true h k = absurd (cc h)
    never false h k = absurd (cc k)

-- ---- splits

-- Names that begin with a stretch are the stretch and then the rest.
after_split : (xs ns rest : List NodeName) → after_front xs ns ≡ Some rest → ns ≡ xs ++ rest
after_split [] ns rest e = the e
  where
    the : Some ns ≡ Some rest → ns ≡ rest
    the e = cc e
after_split (x ∷ xs) [] rest e = absurd (cc e)
after_split (x ∷ xs) (y ∷ ns) rest e = by (name_eq x y) refl (after_split xs ns rest) e
  where
    by : (b : Bool) → name_eq x y ≡ b → (after_front xs ns ≡ Some rest → ns ≡ xs ++ rest) → cond b (after_front xs ns) None ≡ Some rest → y ∷ ns ≡ x ∷ (xs ++ rest)
    by true f more e = let first = sym (name_same x y f) in let later = more e in λ i. first i ∷ later i
    by false f more e = absurd (cc e)

-- The names that stand in front of a stretch.
pub record Front (xs rest ns : List NodeName) : Type 0 where
  pub front : List NodeName
  pub split : ns ≡ front ++ (xs ++ rest)

pub older_split : (xs ns rest : List NodeName) → older_nodes xs ns ≡ Some rest → Front xs rest ns
older_split xs [] rest e = record { front = []; split = after_split xs [] rest e }
older_split xs (y ∷ ns) rest e = by (after_front xs (y ∷ ns)) refl (older_split xs ns rest) e
  where
    later : Front xs rest ns → Front xs rest (y ∷ ns)
    later f = record { front = y ∷ f.front; split = ap (λ zs. y ∷ zs) f.split }

    by : (o : Option (List NodeName)) → after_front xs (y ∷ ns) ≡ o → (older_nodes xs ns ≡ Some rest → Front xs rest ns) → or_later o (older_nodes xs ns) ≡ Some rest → Front xs rest (y ∷ ns)
    by None f more e = later (more e)
    by (Some other) f more e = record { front = []; split = after_split xs (y ∷ ns) rest (f ∙ e) }

-- ---- a tail

-- The sources end the names. What is in front stands before them, and is none of them.
pub record Tail (sources ns : List NodeName) : Type 0 where
  pub front : List NodeName
  pub split : ns ≡ front ++ sources
  pub higher : (x : NodeName) → IsIn x front → AllByRecursion (StandsBefore x) sources
  pub fresh : (x : NodeName) → IsIn x front → IsIn x sources → ⊥

after_self : (xs : List NodeName) → after_front xs xs ≡ Some []
after_self [] = refl
after_self (x ∷ xs) = ap (λ b. cond b (after_front xs xs) None) (same_name x) ∙ after_self xs

front_oldest : (s : NodeName) (sources front : List NodeName) → ((x : NodeName) → IsIn x front → IsIn x (s ∷ sources) → ⊥) → older_nodes (s ∷ sources) (front ++ (s ∷ sources)) ≡ Some []
front_oldest s sources [] fresh = ap (λ o. or_later o (older_nodes (s ∷ sources) sources)) (after_self (s ∷ sources))
front_oldest s sources (f ∷ front) fresh =
    ap (λ b. or_later (cond b (after_front sources (front ++ (s ∷ sources))) None) (older_nodes (s ∷ sources) (front ++ (s ∷ sources)))) (other (name_eq s f) refl)
    ∙ front_oldest s sources front (λ x there. fresh x (inr there))
  where
    other : (b : Bool) → name_eq s f ≡ b → b ≡ false
    other true e = absurd (fresh f (inl refl) (inl (name_same s f e)))
    other false e = refl

pub tail_oldest : (sources ns : List NodeName) → IsTrue (is_nonempty sources) → Tail sources ns → older_nodes sources ns ≡ Some []
tail_oldest [] ns some t = absurd (cc some)
tail_oldest (s ∷ sources) ns some t = ap (older_nodes (s ∷ sources)) t.split ∙ front_oldest s sources t.front t.fresh

-- ---- another stretch stands in front

-- A stretch stands in front of the tail, and so does what is between them.
pub record Ahead (xs rest front sources : List NodeName) : Type 0 where
  pub between : List NodeName
  pub in_front : (x : NodeName) → IsIn x xs → IsIn x front
  pub between_front : (x : NodeName) → IsIn x between → IsIn x front
  pub rest_is : rest ≡ between ++ sources

-- A stretch that begins a list stands in front of the list's tail, if the two have no name in common.
ahead_here : (xs rest front sources : List NodeName) → xs ++ rest ≡ front ++ sources → ((x : NodeName) → IsIn x xs → IsIn x sources → ⊥) → Ahead xs rest front sources
ahead_here [] rest front sources e apart = record { between = front; in_front = λ x there. absurd there; between_front = λ x there. there; rest_is = e }
ahead_here (x ∷ xs) rest [] sources e apart = absurd (apart x (inl refl) (subst (λ zs. IsIn x zs) e (inl refl)))
ahead_here (x ∷ xs) rest (f ∷ front) sources e apart = more (cc e) (ahead_here xs rest front sources (cc e) (λ y there. apart y (inr there)))
  where
    more : x ≡ f → Ahead xs rest front sources → Ahead (x ∷ xs) rest (f ∷ front) sources
    more same a = record { between = a.between; in_front = found; between_front = λ y there. inr (a.between_front y there); rest_is = a.rest_is }
      where
        found : (y : NodeName) → IsIn y (x ∷ xs) → IsIn y (f ∷ front)
        found y (inl is) = inl (sym same ∙ is)
        found y (inr there) = inr (a.in_front y there)

pub ahead : (pre : List NodeName) (x : NodeName) (xs rest front sources : List NodeName) → pre ++ ((x ∷ xs) ++ rest) ≡ front ++ sources → ((y : NodeName) → IsIn y (x ∷ xs) → IsIn y sources → ⊥) → Ahead (x ∷ xs) rest front sources
ahead [] x xs rest front sources e apart = ahead_here (x ∷ xs) rest front sources e apart
ahead (p ∷ pre) x xs rest [] sources e apart = absurd (apart x (inl refl) (subst (λ zs. IsIn x zs) e (inr (in_back x pre (x ∷ (xs ++ rest)) (inl refl)))))
ahead (p ∷ pre) x xs rest (f ∷ front) sources e apart =
    let a = ahead pre x xs rest front sources (cc e) apart in
    record { between = a.between; in_front = λ y there. inr (a.in_front y there); between_front = λ y there. inr (a.between_front y there); rest_is = a.rest_is }

-- ---- a run that replaces another stretch is above the tail

run_in : (xs : List NodeName) (id : ℕ) → IsIn id (run_ids xs) → IsIn (Run id) xs
run_in [] id there = absurd there
run_in (L0 name ∷ xs) id there = inr (run_in xs id there)
run_in (Run other ∷ xs) id (inl same) = inl (ap Run same)
run_in (Run other ∷ xs) id (inr there) = inr (run_in xs id there)

pub in_runs : (xs : List NodeName) (id : ℕ) → IsIn (Run id) xs → IsIn id (run_ids xs)
in_runs [] id there = absurd there
in_runs (L0 name ∷ xs) id (inl same) = absurd (cc same)
in_runs (L0 name ∷ xs) id (inr there) = in_runs xs id there
in_runs (Run other ∷ xs) id (inl same) = inl (number same)
  where
    number : Run other ≡ Run id → other ≡ id
    number same = cc same
in_runs (Run other ∷ xs) id (inr there) = inr (in_runs xs id there)

-- There is a flush if there is a name and no run.
has_flush : (x : NodeName) (xs : List NodeName) → run_ids (x ∷ xs) ≡ [] → IsTrue (list_any is_l0 (x ∷ xs))
has_flush (L0 name) xs e = refl
has_flush (Run id) xs e = absurd (cc e)

-- All of these are runs.
abbrev AreRuns : List NodeName → Type 0
AreRuns xs = AllByRecursion (λ x. is_l0 x ≡ false) xs

after_run : (id : ℕ) (xs : List NodeName) → AllByRecursion (StandsBefore (Run id)) xs → AreRuns xs
after_run id [] h = tt
after_run id (L0 name ∷ xs) h = absurd h.0
after_run id (Run other ∷ xs) h = (refl, after_run id xs h.1)

all_runs : (between sources : List NodeName) → Pairs StandsBefore sources → ((x : NodeName) → IsIn x between → AllByRecursion (StandsBefore x) sources) → IsTrue (begins_with_run (between ++ sources)) → AreRuns sources
all_runs [] [] order higher h = tt
all_runs [] (L0 name ∷ sources) order higher h = absurd (cc h)
all_runs [] (Run id ∷ sources) order higher h = (refl, after_run id sources order.0)
all_runs (L0 name ∷ between) sources order higher h = absurd (cc h)
all_runs (Run id ∷ between) sources order higher h = after_run id sources (higher (Run id) (inl refl))

above_runs : (id : ℕ) (xs : List NodeName) → AreRuns xs → ((run : ℕ) → IsIn (Run run) xs → run < id) → AllByRecursion (StandsBefore (Run id)) xs
above_runs id [] h low = tt
above_runs id (L0 name ∷ xs) h low = absurd (cc h.0)
above_runs id (Run run ∷ xs) h low = (low run (inl refl), above_runs id xs h.1 (λ other there. low other (inr there)))

and_left : (a b : Bool) → IsTrue (a && b) → IsTrue a
and_left true b h = refl
and_left false b h = absurd (cc h)

or_not : (a b : Bool) → IsTrue (not a || b) → IsTrue a → IsTrue b
or_not true b h k = h
or_not false b h k = absurd (cc k)

-- The destination that fits a whole stretch stands before a tail of the tree, if the two have no name in common.
pub run_above : (sources ns : List NodeName) (x : NodeName) (xs : List NodeName) (id : ℕ) (runs : List ℕ) → Tail sources ns → Pairs StandsBefore sources → IsTrue (reaches_oldest (x ∷ xs) (older_nodes (x ∷ xs) ns)) → ((y : NodeName) → IsIn y (x ∷ xs) → IsIn y sources → ⊥)
    → IsTrue (is_lowest_or_above id (run_ids (x ∷ xs)) runs) → ((run : ℕ) → IsIn (Run run) ns → IsIn run runs) → AllByRecursion (StandsBefore (Run id)) sources
run_above sources ns x xs id runs t order reaches apart fits has = by (older_nodes (x ∷ xs) ns) refl reaches
  where
    low : run_ids (x ∷ xs) ≡ [] → (run : ℕ) → IsIn run runs → run < id
    low none run there = ltb-true run id (all_at (λ r. IsTrue (nat_lt r id)) runs run (all_true_front (λ r. nat_lt r id) runs (subst (λ ids. IsTrue (is_lowest_or_above id ids runs)) none fits)) there)

    cases : (rest : List NodeName) → Ahead (x ∷ xs) rest t.front sources → IsTrue (not (list_any is_l0 (x ∷ xs)) || begins_with_run rest) → (ids : List ℕ) → run_ids (x ∷ xs) ≡ ids → AllByRecursion (StandsBefore (Run id)) sources
    cases rest a h [] none =
        above_runs id sources (all_runs a.between sources order (λ y there. t.higher y (a.between_front y there)) (subst (λ r. IsTrue (begins_with_run r)) a.rest_is (or_not _ _ h (has_flush x xs none))))
        (λ run there. low none run (has run (subst (λ zs. IsIn (Run run) zs) (sym t.split) (in_back (Run run) t.front sources there))))
    cases rest a h (r ∷ ids) is =
        let there = contains_in (r ∷ ids) id (and_left _ _ (subst (λ rs. IsTrue (is_lowest_or_above id rs runs)) is fits)) in
        t.higher (Run id) (a.in_front (Run id) (run_in (x ∷ xs) id (subst (λ rs. IsIn id rs) (sym is) there)))

    by : (o : Option (List NodeName)) → older_nodes (x ∷ xs) ns ≡ o → IsTrue (reaches_oldest (x ∷ xs) o) → AllByRecursion (StandsBefore (Run id)) sources
    by None e h = absurd (cc h)
    by (Some rest) e h = let f = older_split (x ∷ xs) ns rest e in cases rest (ahead f.front x xs rest t.front sources (sym f.split ∙ t.split) apart) h (run_ids (x ∷ xs)) refl

-- ---- a tail after steps

-- A tail with fewer names in front, or with these besides.
pub record Kept (sources ns front : List NodeName) (P : NodeName → Type 0) : Type 0 where
  pub now : List NodeName
  pub split : ns ≡ now ++ sources
  pub from : (x : NodeName) → IsIn x now → P x ⊎ IsIn x front

-- The names of a tree stay as they are when none of them is taken out.
all_stay : (out : List NodeName) (tree : Tree) (sources : List NodeName) → names tree ≡ sources → ((x : NodeName) → IsIn x sources → names_contain out x ≡ false) → names (without_nodes out tree) ≡ sources
all_stay out [] sources e h = e
all_stay out (node ∷ tree) [] e h = absurd (cc e)
all_stay out (node ∷ tree) (s ∷ sources) e h = by (names_contain out node.name) (subst (λ x. names_contain out x ≡ false) (sym (first e)) (h s (inl refl))) (all_stay out tree sources (cc e) (λ x there. h x (inr there)))
  where
    first : node.name ∷ names tree ≡ s ∷ sources → node.name ≡ s
    first e = cc e

    by : (b : Bool) → b ≡ false → names (without_nodes out tree) ≡ sources → names (cond (not b) (node ∷ without_nodes out tree) (without_nodes out tree)) ≡ s ∷ sources
    by true f rest = absurd (cc f)
    by false f rest = let one = first e in λ i. one i ∷ rest i

-- A tail still ends a tree when other nodes are taken out, and no name is new in front of it.
pub without_tail : (out : List NodeName) (tree : Tree) (front sources : List NodeName) → names tree ≡ front ++ sources → ((x : NodeName) → IsIn x sources → names_contain out x ≡ false) → Kept sources (names (without_nodes out tree)) front (λ x. ⊥)
without_tail out tree [] sources e h = record { now = []; split = all_stay out tree sources e h; from = λ x there. absurd there }
without_tail out [] (f ∷ front) sources e h = absurd (cc e)
without_tail out (node ∷ tree) (f ∷ front) sources e h = by (names_contain out node.name) (without_tail out tree front sources (cc e) h)
  where
    first : node.name ∷ names tree ≡ f ∷ (front ++ sources) → node.name ≡ f
    first e = cc e

    later : (x : NodeName) → ⊥ ⊎ IsIn x front → ⊥ ⊎ IsIn x (f ∷ front)
    later x (inl never) = absurd never
    later x (inr there) = inr (inr there)

    begun : Kept sources (names (without_nodes out tree)) front (λ x. ⊥) → Kept sources (node.name ∷ names (without_nodes out tree)) (f ∷ front) (λ x. ⊥)
    begun k = record { now = node.name ∷ k.now; split = ap (λ zs. node.name ∷ zs) k.split; from = found }
      where
        found : (x : NodeName) → IsIn x (node.name ∷ k.now) → ⊥ ⊎ IsIn x (f ∷ front)
        found x (inl same) = inr (inl (sym (first e) ∙ same))
        found x (inr there) = later x (k.from x there)

    by : (b : Bool) → Kept sources (names (without_nodes out tree)) front (λ x. ⊥) → Kept sources (names (cond (not b) (node ∷ without_nodes out tree) (without_nodes out tree))) (f ∷ front) (λ x. ⊥)
    by true k = record { now = k.now; split = k.split; from = λ x there. later x (k.from x there) }
    by false k = begun k

-- A tail still ends a tree when a run that stands before it is put in, and only the run is new in front of it.
pub put_tail : (id : ℕ) (run : Node) (tree : Tree) (front sources : List NodeName) → run.name ≡ Run id → names tree ≡ front ++ sources → IsTrue (is_nonempty sources) → AllByRecursion (StandsBefore (Run id)) sources → Kept sources (names (put_run id run tree)) front (λ x. Run id ≡ x)
put_tail id run [] [] sources is e some above = absurd (empty sources e some)
  where
    empty : (xs : List NodeName) → [] ≡ xs → IsTrue (is_nonempty xs) → ⊥
    empty [] e h = absurd (cc h)
    empty (x ∷ xs) e h = absurd (cc e)
put_tail id run [] (f ∷ front) sources is e some above = absurd (cc e)
put_tail id run (node ∷ tree) [] sources is e some above = by (is_run_below id node.name) (below sources e above)
  where
    name_below : (x : NodeName) → StandsBefore (Run id) x → is_run_below id x ≡ true
    name_below (L0 name) h = absurd h
    name_below (Run other) h = lt-ltb other id h

    below : (xs : List NodeName) → node.name ∷ names tree ≡ xs → AllByRecursion (StandsBefore (Run id)) xs → is_run_below id node.name ≡ true
    below [] e h = absurd (cc e)
    below (x ∷ xs) e h = subst (λ y. is_run_below id y ≡ true) (sym (the e)) (name_below x h.0)
      where
        the : node.name ∷ names tree ≡ x ∷ xs → node.name ≡ x
        the e = cc e

    own : (x : NodeName) → IsIn x (run.name ∷ []) → (Run id ≡ x) ⊎ IsIn x []
    own x (inl same) = inl (sym is ∙ same)
    own x (inr there) = absurd there

    by : (b : Bool) → b ≡ true → Kept sources (names (cond b (run ∷ node ∷ tree) (node ∷ put_run id run tree))) [] (λ x. Run id ≡ x)
    by true f = record { now = run.name ∷ []; split = ap (λ zs. run.name ∷ zs) e; from = own }
    by false f = absurd (cc f)
put_tail id run (node ∷ tree) (f ∷ front) sources is e some above = by (is_run_below id node.name) (put_tail id run tree front sources is (cc e) some above)
  where
    first : node.name ∷ names tree ≡ f ∷ (front ++ sources) → node.name ≡ f
    first e = cc e

    later : (x : NodeName) → (Run id ≡ x) ⊎ IsIn x front → (Run id ≡ x) ⊎ IsIn x (f ∷ front)
    later x (inl same) = inl same
    later x (inr there) = inr (inr there)

    ahead_of : (x : NodeName) → IsIn x (run.name ∷ (f ∷ front)) → (Run id ≡ x) ⊎ IsIn x (f ∷ front)
    ahead_of x (inl same) = inl (sym is ∙ same)
    ahead_of x (inr there) = inr there

    begun : Kept sources (names (put_run id run tree)) front (λ x. Run id ≡ x) → Kept sources (node.name ∷ names (put_run id run tree)) (f ∷ front) (λ x. Run id ≡ x)
    begun k = record { now = node.name ∷ k.now; split = ap (λ zs. node.name ∷ zs) k.split; from = found }
      where
        found : (x : NodeName) → IsIn x (node.name ∷ k.now) → (Run id ≡ x) ⊎ IsIn x (f ∷ front)
        found x (inl same) = inr (inl (sym (first e) ∙ same))
        found x (inr there) = later x (k.from x there)

    by : (b : Bool) → Kept sources (names (put_run id run tree)) front (λ x. Run id ≡ x) → Kept sources (names (cond b (run ∷ node ∷ tree) (node ∷ put_run id run tree))) (f ∷ front) (λ x. Run id ≡ x)
    by true k = record { now = run.name ∷ (f ∷ front); split = ap (λ zs. run.name ∷ zs) e; from = ahead_of }
    by false k = begun k

-- A tail stays one, if what is new in front stands before it.
pub tail_on : (sources ns more : List NodeName) (P : NodeName → Type 0) (t : Tail sources ns) → Kept sources more t.front P → ((x : NodeName) → P x → AllByRecursion (StandsBefore x) sources) → ((x : NodeName) → P x → IsIn x sources → ⊥) → Tail sources more
tail_on sources ns more P t k higher fresh = record { front = k.now; split = k.split; higher = λ x there. above x (k.from x there); fresh = λ x there. none x (k.from x there) }
  where
    above : (x : NodeName) → P x ⊎ IsIn x t.front → AllByRecursion (StandsBefore x) sources
    above x (inl new) = higher x new
    above x (inr old) = t.higher x old

    none : (x : NodeName) → P x ⊎ IsIn x t.front → IsIn x sources → ⊥
    none x (inl new) = fresh x new
    none x (inr old) = t.fresh x old

-- Other names are taken out.
pub tail_without : (sources out : List NodeName) (tree : Tree) → Tail sources (names tree) → ((x : NodeName) → IsIn x out → IsIn x sources → ⊥) → Tail sources (names (without_nodes out tree))
tail_without sources out tree t apart = tail_on sources (names tree) (names (without_nodes out tree)) (λ x. ⊥) t (without_tail out tree t.front sources t.split (λ x there. lacks x there (names_contain out x) refl)) (λ x never. absurd never) (λ x never. absurd never)
  where
    lacks : (x : NodeName) → IsIn x sources → (b : Bool) → names_contain out x ≡ b → b ≡ false
    lacks x there true e = absurd (apart x (names_in out x e) there)
    lacks x there false e = refl

-- And a run is put in place of them.
pub tail_with_run : (sources out : List NodeName) (id : ℕ) (run : Node) (tree : Tree) → run.name ≡ Run id → IsTrue (is_nonempty sources) → Tail sources (names tree) → ((x : NodeName) → IsIn x out → IsIn x sources → ⊥) → AllByRecursion (StandsBefore (Run id)) sources
    → Tail sources (names (put_run id run (without_nodes out tree)))
tail_with_run sources out id run tree is some t apart above =
    let t1 = tail_without sources out tree t apart in
    tail_on sources (names (without_nodes out tree)) (names (put_run id run (without_nodes out tree))) (λ x. Run id ≡ x) t1 (put_tail id run (without_nodes out tree) t1.front sources is t1.split some above)
    (λ x same. subst (λ y. AllByRecursion (StandsBefore y) sources) same above)
    (λ x same there. itself (all_at (StandsBefore (Run id)) sources (Run id) above (subst (λ y. IsIn y sources) (sym same) there)))
  where
    itself : id < id → ⊥
    itself low = absurd (omega (arith, low))
