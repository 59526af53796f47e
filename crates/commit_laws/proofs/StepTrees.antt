-- What is kept of all trees, and how a change of one of them keeps it.
use Rattle.std.proofs.Common.{◌≡◌, refl, sym, ◌∙◌, ap, subst, ℕ, ◌≤◌, List, [], ◌∷◌, ◌++◌, cond, Bool, true, false, inl, inr, ◌⊎◌, Some}
use Rattle.std.specs.Prelude.{IsTrue, not, map, flat_map, option_map, bytes_eq}
use Rattle.std.specs.List.{AllByRecursion}
use Rattle.std.specs.declared.cmp.Ordering.TheVariants.{Less}
use Rattle.std.proofs.lemmas.Slice.Eq.{bytes_eq-Decides}
use Rattle.row_model.specs.Lists.{Pairs}
use Rattle.row_model.specs.Rows.{key_cmp}
use Rattle.row_model.specs.Fold.{Operator}
use Rattle.row_laws.proofs.KeyRows.{key_alike}
use Rattle.fleet_model.specs.Nodes.{NodeName, names_contain, Tree, Segment, Trees, names, segment_at}
use Rattle.fleet_model.specs.Handles.{tree_tables}
use Rattle.fleet_model.specs.History.{Entry}
use Rattle.fleet_model.specs.Store.{Store}
use Rattle.fleet_model.specs.Sources.{is_apart}
use Rattle.fleet_model.specs.Trees.{on_segment, watermark_after}
use Rattle.fleet_model.specs.Invariants.TreesFit.{NoneShared, RootIsFirst}
use Rattle.step_model.specs.Kept.TablesKept.{AreApart}
use Rattle.step_laws.proofs.Elements.{IsIn, all_at, all_from, all_to, pairs_map, all_true_front, all_true_from, in_append, in_front, in_back}
use Rattle.step_laws.proofs.OwnTables.{apart_from, apart_at, pairs_both}
use Rattle.step_laws.proofs.FlushTrees.{Rising}
use Rattle.step_laws.proofs.FlushFollows.{found_segment}
use Rattle.commit_laws.proofs.Stretches.{in_names, names_no}
use Rattle.commit_laws.proofs.TreeReads.{with_horizon, tree_to_part, part_to_tree, later_reads}
use Rattle.commit_laws.proofs.Segments.{SegmentFits}

-- ---- names that are apart

pub names_apart_from : (xs ys : List NodeName) → ((n : NodeName) → IsIn n xs → IsIn n ys → ⊥) → IsTrue (is_apart xs ys)
names_apart_from xs ys h = all_true_from (λ x. not (names_contain ys x)) xs (all_from _ xs (λ n there. ap not (names_no ys n (λ other. h n there other))))

pub names_apart_at : (xs ys : List NodeName) (n : NodeName) → IsTrue (is_apart xs ys) → IsIn n xs → IsIn n ys → ⊥
names_apart_at xs ys n h there other = by (names_contain ys n) (all_at _ xs n (all_true_front (λ x. not (names_contain ys x)) xs h) there) (in_names ys n other)
  where
    by : (b : Bool) → IsTrue (not b) → b ≡ true → ⊥
    by true h e = absurd (cc h)
    by false h e = absurd (cc e)

-- ---- what is kept of all trees

pub record TreesKept (merge : Operator) (store : Store) (history : List Entry) (trees : Trees) : Type 0 where
  pub root : RootIsFirst trees
  pub rise : Rising trees
  pub each : AllByRecursion (SegmentFits merge store history) trees
  pub apart : Pairs NoneShared trees
  pub tables : Pairs (λ (a b : Segment). AreApart (tree_tables a) (tree_tables b)) trees

pub later_segment : (merge : Operator) (store : Store) (history : List Entry) (low high : ℕ) (s : Segment) → low ≤ high → SegmentFits merge (with_horizon store low) history s → SegmentFits merge (with_horizon store high) history s
later_segment merge store history low high s rises h = record {
  tree = record { names_in_order = h.tree.names_in_order; newest_first = h.tree.newest_first; at_most_last = h.tree.at_most_last; ordered = h.tree.ordered };
  pieces = h.pieces;
  flushes = h.flushes;
  reads = part_to_tree merge (with_horizon store high) s.tree (later_reads merge store low high true s.tree rises (tree_to_part merge (with_horizon store low) s.tree h.reads));
  known = h.known;
  flushed = h.flushed;
  passed = h.passed;
}

pub later_trees : (merge : Operator) (store : Store) (history : List Entry) (low high : ℕ) (trees : Trees) → low ≤ high → TreesKept merge (with_horizon store low) history trees → TreesKept merge (with_horizon store high) history trees
later_trees merge store history low high trees rises h = record {
  root = h.root;
  rise = h.rise;
  each = all_to _ _ trees (λ s there fits. later_segment merge store history low high s rises fits) h.each;
  apart = h.apart;
  tables = h.tables;
}

-- ---- one segment changes

-- The change of the segment with this prefix.
abbrev pub on : List ℕ → List NodeName → (Tree → Tree) → Segment → Segment
on prefix sources change = on_segment prefix sources change

abbrev pub changed_segment : List NodeName → (Tree → Tree) → Segment → Segment
changed_segment sources change s = record s { tree = change s.tree; watermark = watermark_after sources s.tree s.watermark }

pub on_prefix : (prefix : List ℕ) (sources : List NodeName) (change : Tree → Tree) (s : Segment) → (on_segment prefix sources change s).prefix ≡ s.prefix
on_prefix prefix sources change s = by (bytes_eq prefix s.prefix)
  where
    by : (b : Bool) → (cond b (changed_segment sources change s) s).prefix ≡ s.prefix
    by true = refl
    by false = refl

pub segment_on : (p prefix : List ℕ) (sources : List NodeName) (change : Tree → Tree) (trees : Trees) → segment_at p (map (on_segment prefix sources change) trees) ≡ option_map (on_segment prefix sources change) (segment_at p trees)
segment_on p prefix sources change [] = refl
segment_on p prefix sources change (s ∷ trees) =
    ap (λ q. cond (bytes_eq p q) (Some (on_segment prefix sources change s)) (segment_at p (map (on_segment prefix sources change) trees))) (on_prefix prefix sources change s)
    ∙ by (bytes_eq p s.prefix) (segment_on p prefix sources change trees)
  where
    by : (b : Bool) → segment_at p (map (on_segment prefix sources change) trees) ≡ option_map (on_segment prefix sources change) (segment_at p trees)
        → cond b (Some (on_segment prefix sources change s)) (segment_at p (map (on_segment prefix sources change) trees)) ≡ option_map (on_segment prefix sources change) (cond b (Some s) (segment_at p trees))
    by true e = refl
    by false e = e

-- The one segment with the prefix.
pub only_segment : (prefix : List ℕ) (trees : Trees) (s x : Segment) → Rising trees → IsIn s trees → prefix ≡ s.prefix → IsIn x trees → prefix ≡ x.prefix → s ≡ x
only_segment prefix trees s x rise there same other alike = some_same (sym (found_segment prefix trees s rise there same) ∙ found_segment prefix trees x rise other alike)
  where
    some_same : Some s ≡ Some x → s ≡ x
    some_same e = cc e

-- What a change does to the segment that it changes.
pub record Changes (merge : Operator) (store : Store) (history : List Entry) (trees : Trees) (prefix : List ℕ) (sources : List NodeName) (change : Tree → Tree) (s : Segment) : Type 0 where
  pub there : IsIn s trees
  pub same : prefix ≡ s.prefix
  pub fits : SegmentFits merge store history (changed_segment sources change s)
  pub new_names : (n : NodeName) → IsIn n (names (change s.tree)) → IsIn n (names s.tree) ⊎ ((y : Segment) → IsIn y trees → IsIn n (names y.tree) → ⊥)
  pub new_tables : (t : ℕ) → IsIn t (tree_tables (changed_segment sources change s)) → IsIn t (tree_tables s) ⊎ ((y : Segment) → IsIn y trees → IsIn t (tree_tables y) → ⊥)

-- Each segment after the change: the changed one, or another one as it was.
pub each_on : (P Q : Segment → Type 0) (trees : Trees) (prefix : List ℕ) (sources : List NodeName) (change : Tree → Tree) (s : Segment) → Rising trees → IsIn s trees → prefix ≡ s.prefix
    → Q (changed_segment sources change s) → ((x : Segment) → IsIn x trees → bytes_eq prefix x.prefix ≡ false → P x → Q x) → AllByRecursion P trees → AllByRecursion Q (map (on_segment prefix sources change) trees)
each_on P Q trees prefix sources change s rise there same new keep h = go trees (λ x one. one) h
  where
    by : (x : Segment) → IsIn x trees → P x → (b : Bool) → bytes_eq prefix x.prefix ≡ b → Q (cond b (changed_segment sources change x) x)
    by x one p true e = subst (λ (y : Segment). Q (changed_segment sources change y)) (only_segment prefix trees s x rise there same one ((bytes_eq-Decides prefix x.prefix).0 e)) new
    by x one p false e = keep x one e p

    go : (xs : Trees) → ((x : Segment) → IsIn x xs → IsIn x trees) → AllByRecursion P xs → AllByRecursion Q (map (on_segment prefix sources change) xs)
    go [] sub h = tt
    go (x ∷ xs) sub h = (by x (sub x (inl refl)) h.0 (bytes_eq prefix x.prefix) refl, go xs (λ y one. sub y (inr one)) h.1)

-- If a relation goes over to a changed segment on either side, every two segments still have it after the change.
pub pairs_on : (R : Segment → Segment → Type 0) (trees : Trees) (prefix : List ℕ) (sources : List NodeName) (change : Tree → Tree) (s : Segment) → Rising trees → IsIn s trees → prefix ≡ s.prefix
    → ((y : Segment) → IsIn y trees → R s y → R (changed_segment sources change s) y) → ((y : Segment) → IsIn y trees → R y s → R y (changed_segment sources change s))
    → Pairs R trees → Pairs R (map (on_segment prefix sources change) trees)
pairs_on R trees prefix sources change s rise there same first second h =
    pairs_map (λ a b. (key_cmp a.prefix b.prefix ≡ Less) × R a b) R (on_segment prefix sources change) trees (λ x y one other r. by x y one other r (bytes_eq prefix x.prefix) refl (bytes_eq prefix y.prefix) refl) (pairs_both (λ a b. key_cmp a.prefix b.prefix ≡ Less) R trees rise h)
  where
    clash : (p : List ℕ) → key_cmp p p ≡ Less → ⊥
    clash p e = let equal = key_alike p in absurd (cc (e, equal))

    by : (x y : Segment) → IsIn x trees → IsIn y trees → (key_cmp x.prefix y.prefix ≡ Less) × R x y → (b : Bool) → bytes_eq prefix x.prefix ≡ b → (c : Bool) → bytes_eq prefix y.prefix ≡ c
        → R (cond b (changed_segment sources change x) x) (cond c (changed_segment sources change y) y)
    by x y one other r true e true f = absurd (clash prefix (subst (λ p. key_cmp p prefix ≡ Less) (sym ((bytes_eq-Decides prefix x.prefix).0 e)) (subst (λ p. key_cmp x.prefix p ≡ Less) (sym ((bytes_eq-Decides prefix y.prefix).0 f)) r.0)))
    by x y one other r true e false f =
        let is = only_segment prefix trees s x rise there same one ((bytes_eq-Decides prefix x.prefix).0 e) in
        subst (λ (z : Segment). R (changed_segment sources change z) y) is (first y other (subst (λ (z : Segment). R z y) (sym is) r.1))
    by x y one other r false e true f =
        let is = only_segment prefix trees s y rise there same other ((bytes_eq-Decides prefix y.prefix).0 f) in
        subst (λ (z : Segment). R x (changed_segment sources change z)) is (second x one (subst (λ (z : Segment). R x z) (sym is) r.1))
    by x y one other r false e false f = r.1

-- What is kept of all trees is kept after a change of one segment that keeps it and takes no node or table of another.
pub trees_on : (merge : Operator) (store : Store) (history : List Entry) (trees : Trees) (prefix : List ℕ) (sources : List NodeName) (change : Tree → Tree) (s : Segment) → Changes merge store history trees prefix sources change s
    → TreesKept merge store history trees → TreesKept merge store history (map (on_segment prefix sources change) trees)
trees_on merge store history trees prefix sources change s c h = record {
  root = root trees h.root;
  rise = pairs_map (λ a b. key_cmp a.prefix b.prefix ≡ Less) (λ a b. key_cmp a.prefix b.prefix ≡ Less) (on_segment prefix sources change) trees
      (λ x y one other less. subst (λ p. key_cmp p (on_segment prefix sources change y).prefix ≡ Less) (sym (on_prefix prefix sources change x)) (subst (λ p. key_cmp x.prefix p ≡ Less) (sym (on_prefix prefix sources change y)) less)) h.rise;
  each = each_on (SegmentFits merge store history) (SegmentFits merge store history) trees prefix sources change s h.rise c.there c.same c.fits (λ x there other fits. fits) h.each;
  apart = pairs_on NoneShared trees prefix sources change s h.rise c.there c.same
      (λ y there none. names_apart_from (names (change s.tree)) (names y.tree) (λ n one other. name_first y there none n other (c.new_names n one)))
      (λ y there none. names_apart_from (names y.tree) (names (change s.tree)) (λ n one other. name_second y there none n one (c.new_names n other))) h.apart;
  tables = pairs_on (λ a b. AreApart (tree_tables a) (tree_tables b)) trees prefix sources change s h.rise c.there c.same
      (λ y there none. apart_from (tree_tables (changed_segment sources change s)) (tree_tables y) (λ t one other. table_first y there none t other (c.new_tables t one)))
      (λ y there none. apart_from (tree_tables y) (tree_tables (changed_segment sources change s)) (λ t one other. table_second y there none t one (c.new_tables t other))) h.tables;
}
  where
    root : (ts : Trees) → RootIsFirst ts → RootIsFirst (map (on_segment prefix sources change) ts)
    root [] h = h
    root (x ∷ ts) h = on_prefix prefix sources change x ∙ h

    name_first : (y : Segment) → IsIn y trees → NoneShared s y → (n : NodeName) → IsIn n (names y.tree) → IsIn n (names s.tree) ⊎ ((z : Segment) → IsIn z trees → IsIn n (names z.tree) → ⊥) → ⊥
    name_first y there none n other (inl one) = names_apart_at (names s.tree) (names y.tree) n none one other
    name_first y there none n other (inr new) = new y there other

    name_second : (y : Segment) → IsIn y trees → NoneShared y s → (n : NodeName) → IsIn n (names y.tree) → IsIn n (names s.tree) ⊎ ((z : Segment) → IsIn z trees → IsIn n (names z.tree) → ⊥) → ⊥
    name_second y there none n other (inl one) = names_apart_at (names y.tree) (names s.tree) n none other one
    name_second y there none n other (inr new) = new y there other

    table_first : (y : Segment) → IsIn y trees → AreApart (tree_tables s) (tree_tables y) → (t : ℕ) → IsIn t (tree_tables y) → IsIn t (tree_tables s) ⊎ ((z : Segment) → IsIn z trees → IsIn t (tree_tables z) → ⊥) → ⊥
    table_first y there none t other (inl one) = apart_at (tree_tables s) (tree_tables y) t none one other
    table_first y there none t other (inr new) = new y there other

    table_second : (y : Segment) → IsIn y trees → AreApart (tree_tables y) (tree_tables s) → (t : ℕ) → IsIn t (tree_tables y) → IsIn t (tree_tables s) ⊎ ((z : Segment) → IsIn z trees → IsIn t (tree_tables z) → ⊥) → ⊥
    table_second y there none t other (inl one) = apart_at (tree_tables y) (tree_tables s) t none other one
    table_second y there none t other (inr new) = new y there other

-- ---- names and tables of all trees

-- What is in a tree after the change was in a tree, or is new in the changed one.
pub in_trees_on : {A : Type 0} (f : Segment → List A) (x : A) (trees : Trees) (prefix : List ℕ) (sources : List NodeName) (change : Tree → Tree) (s : Segment) → Rising trees → IsIn s trees → prefix ≡ s.prefix
    → IsIn x (flat_map f (map (on_segment prefix sources change) trees)) → IsIn x (flat_map f trees) ⊎ IsIn x (f (changed_segment sources change s))
in_trees_on {A} f x trees prefix sources change s rise there same h = go trees (λ y one. one) h
  where
    in_one : (y : Segment) → IsIn y trees → (b : Bool) → bytes_eq prefix y.prefix ≡ b → IsIn x (f (cond b (changed_segment sources change y) y)) → IsIn x (f y) ⊎ IsIn x (f (changed_segment sources change s))
    in_one y one true e h = inr (subst (λ (z : Segment). IsIn x (f (changed_segment sources change z))) (sym (only_segment prefix trees s y rise there same one ((bytes_eq-Decides prefix y.prefix).0 e))) h)
    in_one y one false e h = inl h

    go : (ys : Trees) → ((y : Segment) → IsIn y ys → IsIn y trees) → IsIn x (flat_map f (map (on_segment prefix sources change) ys)) → IsIn x (flat_map f ys) ⊎ IsIn x (f (changed_segment sources change s))
    go [] sub h = absurd h
    go (y ∷ ys) sub h = by (go ys (λ z other. sub z (inr other))) (in_append x (f (on_segment prefix sources change y)) (flat_map f (map (on_segment prefix sources change) ys)) h)
      where
        first : IsIn x (f y) ⊎ IsIn x (f (changed_segment sources change s)) → IsIn x (f y ++ flat_map f ys) ⊎ IsIn x (f (changed_segment sources change s))
        first (inl one) = inl (in_front x (f y) (flat_map f ys) one)
        first (inr new) = inr new

        rest : IsIn x (flat_map f ys) ⊎ IsIn x (f (changed_segment sources change s)) → IsIn x (f y ++ flat_map f ys) ⊎ IsIn x (f (changed_segment sources change s))
        rest (inl one) = inl (in_back x (f y) (flat_map f ys) one)
        rest (inr new) = inr new

        by : (IsIn x (flat_map f (map (on_segment prefix sources change) ys)) → IsIn x (flat_map f ys) ⊎ IsIn x (f (changed_segment sources change s)))
            → IsIn x (f (on_segment prefix sources change y)) ⊎ IsIn x (flat_map f (map (on_segment prefix sources change) ys)) → IsIn x (f y ++ flat_map f ys) ⊎ IsIn x (f (changed_segment sources change s))
        by further (inl one) = first (in_one y (sub y (inl refl)) (bytes_eq prefix y.prefix) refl one)
        by further (inr one) = rest (further one)
