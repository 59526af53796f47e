-- Trees after a flush: one tree has a node more in front, and all else stays.
use Rattle.std.proofs.Common.{◌≡◌, refl, sym, ◌∙◌, ap, subst, ℕ, List, [], ◌∷◌, cond, Bool, true, false, inl, inr, Some, None}
use Rattle.std.specs.Prelude.{bytes_eq, map}
use Rattle.std.specs.Ordering.{is_lt, ordering_reverse}
use Rattle.std.specs.declared.cmp.Ordering.{Ordering}
use Rattle.std.specs.declared.cmp.Ordering.TheVariants.{Less, Equal, Greater}
use Rattle.std.specs.List.{AllByRecursion}
use Rattle.std.specs.List.Sorted.{IsStrictlySortedBy}
use Rattle.std.proofs.lemmas.Cmp.{nat_list_cmp_total}
use Rattle.std.proofs.lemmas.Slice.Eq.{bytes_eq-Decides}
use Rattle.row_model.specs.Lists.{Pairs}
use Rattle.row_model.specs.Rows.{Row, key_cmp}
use Rattle.row_laws.proofs.KeyRows.{exact, key_alike}
use Rattle.fleet_model.specs.Nodes.{L0, Node, Segment, Trees, segment_at, tree_at, tree_or_empty}
use Rattle.fleet_model.specs.Trees.{flushed_trees, flushed_on, empty_segment}
use Rattle.fleet_model.specs.Invariants.TreesFit.{RootIsFirst}
use Rattle.step_laws.proofs.Elements.{IsIn, all_from, all_to}
use Rattle.row_laws.proofs.ApartRows.{lt_is}

-- ---- prefixes

abbrev pub Rising : Trees → Type 0
Rising trees = Pairs (λ a b. key_cmp a.prefix b.prefix ≡ Less) trees

all_prefixes : (k : List ℕ) (trees : Trees) → AllByRecursion (λ y. key_cmp k y ≡ Less) (map (λ s. s.prefix) trees) → AllByRecursion (λ s. key_cmp k s.prefix ≡ Less) trees
all_prefixes k [] h = tt
all_prefixes k (s ∷ trees) h = (h.0, all_prefixes k trees h.1)

prefixes_all : (k : List ℕ) (trees : Trees) → AllByRecursion (λ s. key_cmp k s.prefix ≡ Less) trees → AllByRecursion (λ y. key_cmp k y ≡ Less) (map (λ s. s.prefix) trees)
prefixes_all k [] h = tt
prefixes_all k (s ∷ trees) h = (h.0, prefixes_all k trees h.1)

pub rising_from : (trees : Trees) → IsStrictlySortedBy key_cmp (map (λ s. s.prefix) trees) → Rising trees
unfolding IsStrictlySortedBy
rising_from [] h = tt
rising_from (s ∷ trees) h = (all_prefixes s.prefix trees h.0, rising_from trees h.1)

pub rising_to : (trees : Trees) → Rising trees → IsStrictlySortedBy key_cmp (map (λ s. s.prefix) trees)
unfolding IsStrictlySortedBy
rising_to [] h = tt
rising_to (s ∷ trees) h = (prefixes_all s.prefix trees h.0, rising_to trees h.1)

-- A key that is neither equal nor below is above.
above : (p q : List ℕ) → bytes_eq p q ≡ false → is_lt (key_cmp p q) ≡ false → key_cmp q p ≡ Less
above p q differs not_below = by (key_cmp p q) refl (nat_list_cmp_total.antisymm q p)
  where
    by : (o : Ordering) → key_cmp p q ≡ o → key_cmp q p ≡ ordering_reverse (key_cmp p q) → key_cmp q p ≡ Less
    by Less e a = absurd (cc (not_below, ap is_lt e))
    by Equal e a = absurd (cc (differs, (bytes_eq-Decides p q).1 (exact p q e)))
    by Greater e a = a ∙ ap ordering_reverse e

-- ---- each tree, and every two

-- After a flush all segments have a property, if those that it leaves, the one that it changes and a new one have it.
flush_on_each : (P Q : Segment → Type 0) (prefix : List ℕ) (name : ℕ) (rows : List Row) (trees : Trees) → ((s : Segment) → IsIn s trees → P s → Q s) → ((s : Segment) → IsIn s trees → prefix ≡ s.prefix → P s → Q (flushed_on name rows s))
    → Q (flushed_on name rows (empty_segment prefix)) → AllByRecursion P trees → AllByRecursion Q (flushed_trees prefix name rows trees)
flush_on_each P Q prefix name rows [] keep grow new h = (new, tt)
flush_on_each P Q prefix name rows (s ∷ trees) keep grow new h =
    by (bytes_eq prefix s.prefix) refl (is_lt (key_cmp prefix s.prefix)) (flush_on_each P Q prefix name rows trees (λ t there. keep t (inr there)) (λ t there. grow t (inr there)) new h.1)
  where
    rest : AllByRecursion Q trees
    rest = all_to P Q trees (λ t there p. keep t (inr there) p) h.1

    by : (same : Bool) → bytes_eq prefix s.prefix ≡ same → (below : Bool) → AllByRecursion Q (flushed_trees prefix name rows trees)
        → AllByRecursion Q (cond same (flushed_on name rows s ∷ trees) (cond below (flushed_on name rows (empty_segment prefix) ∷ s ∷ trees) (s ∷ flushed_trees prefix name rows trees)))
    by true e below further = (grow s (inl refl) ((bytes_eq-Decides prefix s.prefix).0 e) h.0, rest)
    by false e true further = (new, (keep s (inl refl) h.0, rest))
    by false e false further = (keep s (inl refl) h.0, further)

pub each_flushed : (P Q : Segment → Type 0) (prefix : List ℕ) (name : ℕ) (rows : List Row) (trees : Trees) → ((s : Segment) → IsIn s trees → P s → Q s) → ((s : Segment) → IsIn s trees → prefix ≡ s.prefix → P s → Q (flushed_on name rows s))
    → Q (flushed_on name rows (empty_segment prefix)) → AllByRecursion P trees → AllByRecursion Q (flushed_trees prefix name rows trees)
each_flushed P Q prefix name rows trees keep grow new h = flush_on_each P Q prefix name rows trees keep grow new h

-- How a relation between every two segments goes over.
pub record GoesOver (R : Segment → Segment → Type 0) (prefix : List ℕ) (name : ℕ) (rows : List Row) (trees : Trees) : Type 0 where
  pub first : (a b : Segment) → IsIn a trees → IsIn b trees → R a b → R (flushed_on name rows a) b
  pub second : (a b : Segment) → IsIn a trees → IsIn b trees → R a b → R a (flushed_on name rows b)
  pub new : (b : Segment) → IsIn b trees → R (flushed_on name rows (empty_segment prefix)) b × R b (flushed_on name rows (empty_segment prefix))

tail_over : (R : Segment → Segment → Type 0) (prefix : List ℕ) (name : ℕ) (rows : List Row) (s : Segment) (trees : Trees) → GoesOver R prefix name rows (s ∷ trees) → GoesOver R prefix name rows trees
tail_over R prefix name rows s trees g = record {
  first = λ a b one other r. g.first a b (inr one) (inr other) r;
  second = λ a b one other r. g.second a b (inr one) (inr other) r;
  new = λ b there. g.new b (inr there);
}

pub pairs_flushed : (R : Segment → Segment → Type 0) (prefix : List ℕ) (name : ℕ) (rows : List Row) (trees : Trees) → GoesOver R prefix name rows trees → Pairs R trees → Pairs R (flushed_trees prefix name rows trees)
pairs_flushed R prefix name rows [] g h = (tt, tt)
pairs_flushed R prefix name rows (s ∷ trees) g h =
    by (bytes_eq prefix s.prefix) (is_lt (key_cmp prefix s.prefix)) (pairs_flushed R prefix name rows trees (tail_over R prefix name rows s trees g) h.1)
  where
    by : (same below : Bool) → Pairs R (flushed_trees prefix name rows trees)
        → Pairs R (cond same (flushed_on name rows s ∷ trees) (cond below (flushed_on name rows (empty_segment prefix) ∷ s ∷ trees) (s ∷ flushed_trees prefix name rows trees)))
    by true below further = (all_to _ _ trees (λ b there r. g.first s b (inl refl) (inr there) r) h.0, h.1)
    by false true further = (all_from _ (s ∷ trees) (λ b there. (g.new b there).0), h)
    by false false further = (each_flushed (R s) (R s) prefix name rows trees (λ b there r. r) (λ b there same r. g.second s b (inl refl) (inr there) r) (g.new s (inl refl)).1 h.0, further)

-- ---- prefixes after a flush

less_on : (k prefix : List ℕ) (name : ℕ) (rows : List Row) (trees : Trees) → key_cmp k prefix ≡ Less → AllByRecursion (λ s. key_cmp k s.prefix ≡ Less) trees → AllByRecursion (λ s. key_cmp k s.prefix ≡ Less) (flushed_trees prefix name rows trees)
less_on k prefix name rows trees low h = each_flushed (λ s. key_cmp k s.prefix ≡ Less) (λ s. key_cmp k s.prefix ≡ Less) prefix name rows trees (λ s there p. p) (λ s there same p. p) low h

pub rising_flushed : (prefix : List ℕ) (name : ℕ) (rows : List Row) (trees : Trees) → Rising trees → Rising (flushed_trees prefix name rows trees)
rising_flushed prefix name rows [] h = (tt, tt)
rising_flushed prefix name rows (s ∷ trees) h = by (bytes_eq prefix s.prefix) refl (is_lt (key_cmp prefix s.prefix)) refl (rising_flushed prefix name rows trees h.1)
  where
    by : (same : Bool) → bytes_eq prefix s.prefix ≡ same → (below : Bool) → is_lt (key_cmp prefix s.prefix) ≡ below → Rising (flushed_trees prefix name rows trees)
        → Rising (cond same (flushed_on name rows s ∷ trees) (cond below (flushed_on name rows (empty_segment prefix) ∷ s ∷ trees) (s ∷ flushed_trees prefix name rows trees)))
    by true e below f rest = (h.0, h.1)
    by false e true f rest = let low = lt_is (key_cmp prefix s.prefix) f in ((low, all_to _ _ trees (λ t there p. nat_list_cmp_total.trans prefix s.prefix t.prefix low p) h.0), h)
    by false e false f rest = (less_on s.prefix prefix name rows trees (above prefix s.prefix e f) h.0, rest)

not_below_empty : (p : List ℕ) → is_lt (key_cmp p []) ≡ false
not_below_empty [] = refl
not_below_empty (x ∷ p) = refl

pub root_flushed : (prefix : List ℕ) (name : ℕ) (rows : List Row) (trees : Trees) → RootIsFirst trees → RootIsFirst (flushed_trees prefix name rows trees)
root_flushed prefix name rows [] h = absurd h
root_flushed prefix name rows (s ∷ trees) h = by (bytes_eq prefix s.prefix) (is_lt (key_cmp prefix s.prefix)) (ap (λ q. is_lt (key_cmp prefix q)) h ∙ not_below_empty prefix)
  where
    by : (same below : Bool) → below ≡ false → RootIsFirst (cond same (flushed_on name rows s ∷ trees) (cond below (flushed_on name rows (empty_segment prefix) ∷ s ∷ trees) (s ∷ flushed_trees prefix name rows trees)))
    by true below e = h
    by false true e = absurd (cc e)
    by false false e = h

-- ---- the tree of a segment after a flush

abbrev pub new_node : ℕ → Node
new_node name = record { name = L0 name; flushes = name ∷ []; pieces = name ∷ [] }

pub none_above : (p : List ℕ) (trees : Trees) → AllByRecursion (λ s. key_cmp p s.prefix ≡ Less) trees → segment_at p trees ≡ None
none_above p [] h = refl
none_above p (s ∷ trees) h = by (bytes_eq p s.prefix) refl (none_above p trees h.1)
  where
    by : (b : Bool) → bytes_eq p s.prefix ≡ b → segment_at p trees ≡ None → cond b (Some s) (segment_at p trees) ≡ None
    by true e rest = let same = (bytes_eq-Decides p s.prefix).0 e in absurd (clash (subst (λ q. key_cmp p q ≡ Less) (sym same) h.0) (key_alike p))
      where
        clash : key_cmp p p ≡ Less → key_cmp p p ≡ Equal → ⊥
        clash a b = absurd (cc (a, b))
    by false e rest = rest

-- After a flush the tree of its prefix has the new node in front, and each other tree is as it was.
pub tree_flushed : (p prefix : List ℕ) (name : ℕ) (rows : List Row) (trees : Trees) → Rising trees → tree_at p (flushed_trees prefix name rows trees) ≡ cond (bytes_eq p prefix) (new_node name ∷ tree_at p trees) (tree_at p trees)
tree_flushed p prefix name rows [] h = by (bytes_eq p prefix)
  where
    by : (b : Bool) → tree_or_empty (cond b (Some (flushed_on name rows (empty_segment prefix))) None) ≡ cond b (new_node name ∷ []) []
    by true = refl
    by false = refl
tree_flushed p prefix name rows (s ∷ trees) h = by (bytes_eq prefix s.prefix) refl (is_lt (key_cmp prefix s.prefix)) refl (tree_flushed p prefix name rows trees h.1)
  where
    here : prefix ≡ s.prefix → (b : Bool) → bytes_eq p s.prefix ≡ b → tree_or_empty (cond b (Some (flushed_on name rows s)) (segment_at p trees)) ≡ cond (bytes_eq p prefix) (new_node name ∷ tree_or_empty (cond b (Some s) (segment_at p trees))) (tree_or_empty (cond b (Some s) (segment_at p trees)))
    here same true e = sym (ap (λ c. cond c (new_node name ∷ s.tree) s.tree) (ap (bytes_eq p) same ∙ e))
    here same false e = sym (ap (λ c. cond c (new_node name ∷ tree_at p trees) (tree_at p trees)) (ap (bytes_eq p) same ∙ e))

    front : key_cmp prefix s.prefix ≡ Less → (b : Bool) → bytes_eq p prefix ≡ b
        → tree_or_empty (cond b (Some (flushed_on name rows (empty_segment prefix))) (segment_at p (s ∷ trees))) ≡ cond b (new_node name ∷ tree_or_empty (segment_at p (s ∷ trees))) (tree_or_empty (segment_at p (s ∷ trees)))
    front low true e =
        let same = (bytes_eq-Decides p prefix).0 e in
        let none = none_above prefix (s ∷ trees) (low, all_to _ _ trees (λ t there q. nat_list_cmp_total.trans prefix s.prefix t.prefix low q) h.0) in
        ap (λ o. new_node name ∷ tree_or_empty o) (sym (ap (λ q. segment_at q (s ∷ trees)) same ∙ none))
    front low false e = refl

    after : bytes_eq prefix s.prefix ≡ false → (b : Bool) → bytes_eq p s.prefix ≡ b → tree_at p (flushed_trees prefix name rows trees) ≡ cond (bytes_eq p prefix) (new_node name ∷ tree_at p trees) (tree_at p trees)
        → tree_or_empty (cond b (Some s) (segment_at p (flushed_trees prefix name rows trees))) ≡ cond (bytes_eq p prefix) (new_node name ∷ tree_or_empty (cond b (Some s) (segment_at p trees))) (tree_or_empty (cond b (Some s) (segment_at p trees)))
    after differs true e rest = sym (ap (λ c. cond c (new_node name ∷ s.tree) s.tree) (apart (bytes_eq p prefix) refl))
      where
        apart : (c : Bool) → bytes_eq p prefix ≡ c → c ≡ false
        apart true f = absurd (cc (differs, (bytes_eq-Decides prefix s.prefix).1 (sym ((bytes_eq-Decides p prefix).0 f) ∙ (bytes_eq-Decides p s.prefix).0 e)))
        apart false f = refl
    after differs false e rest = rest

    by : (same : Bool) → bytes_eq prefix s.prefix ≡ same → (below : Bool) → is_lt (key_cmp prefix s.prefix) ≡ below → tree_at p (flushed_trees prefix name rows trees) ≡ cond (bytes_eq p prefix) (new_node name ∷ tree_at p trees) (tree_at p trees)
        → tree_at p (cond same (flushed_on name rows s ∷ trees) (cond below (flushed_on name rows (empty_segment prefix) ∷ s ∷ trees) (s ∷ flushed_trees prefix name rows trees))) ≡ cond (bytes_eq p prefix) (new_node name ∷ tree_at p (s ∷ trees)) (tree_at p (s ∷ trees))
    by true e below f rest = here ((bytes_eq-Decides prefix s.prefix).0 e) (bytes_eq p s.prefix) refl
    by false e true f rest = front (lt_is (key_cmp prefix s.prefix) f) (bytes_eq p prefix) refl
    by false e false f rest = after e (bytes_eq p s.prefix) refl rest
