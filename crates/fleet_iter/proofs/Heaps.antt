-- The entries of a heap, and the heads of which they have the rows.
use Rattle.std.proofs.Common.{◌≡◌, ◌≢◌, ◌∙◌, sym, refl, ap, subst, ℕ, ◌+◌, ◌<◌, ◌≤◌, List, [], ◌∷◌, ◌++◌, suc, zero, map, length, Option, Some, None, Bool, true, false, cond, arith, zero-add, add-zero, add-one, get_or, nat_eq}
use Rattle.std.specs.Prelude.{not}
use Rattle.std.specs.Option.{option_map, option_or}
use Rattle.std.specs.List.{AllByRecursion, IsDistinct, range_with_len, slice_get}
use Rattle.std.specs.List.Sorted.{IsPermutation}
use Rattle.std.specs.Map.{keys_of, lookup}
use Rattle.std.specs.BinaryHeap.{IsHeap, IsUpperBound}
use Rattle.std.specs.Cmp.{nat_eq_equiv, nat_cmp_total, nat_cmp_is}
use Rattle.std.specs.Ordering.{is_lt, is_gt, nat_cmp, ordering_then, ordering_reverse}
use Rattle.std.specs.declared.cmp.Ordering.{Ordering}
use Rattle.std.specs.declared.cmp.Ordering.TheVariants.{Less, Equal, Greater}
use Rattle.std.specs.declared.cmp.Reverse.{Reverse}
use Rattle.std.proofs.Math.ListN.{set}
use Rattle.std.proofs.lemmas.List.{get_or-set_same, get_or-set_other, ext_get_or}
use Rattle.std.proofs.lemmas.List.FromFn.{map-range_with_len_more, length-map-range_with_len, get_or-map-range_with_len}
use Rattle.std.proofs.lemmas.List.Elements.{recursion_from_All, All-from_recursion}
use Rattle.std.proofs.lemmas.List.Sorted.{IsPermutation-refl, IsPermutation-map, IsPermutation-sym, All-permutation, Contains-permutation}
use Rattle.std.proofs.lemmas.Map.Keys.{IsDistinct-from_apart, IsDistinct-cons, IsDistinct-head, IsDistinct-tail, IsDistinct-IsPermutation}
use Rattle.std.proofs.lemmas.Map.Views.{Contains-from_lookup, lookup-from_Contains, exact_unsigned_eq}
use Rattle.fleet_rows.specs.Row.{row_of}
use Rattle.fleet_rows.specs.declared.row.RowEntry.{RowEntry}
use Rattle.fleet_iter.specs.declared.iterator.IterationOrder.{IterationOrder}
use Rattle.fleet_iter.specs.declared.iterator.IterationOrder.TheVariants.{Ascending, Descending}
use Rattle.fleet_iter.specs.declared.entry.MergeIteratorHeapEntry.{MergeIteratorHeapEntry}
use Rattle.fleet_iter.specs.Entry.{entry_cmp, order_cmp, keys_total}
use Rattle.fleet_iter.specs.Merge.{best, choose, goes_first, keys_in}
use Rattle.fleet_iter.specs.Heads.{HeadRows, placed_rows, heads_of, AreHeads, refilled_heads}

-- The row that entries have for a place.
abbrev pub row_at : List (Reverse MergeIteratorHeapEntry) → ℕ → Option RowEntry
row_at es i = lookup (nat_eq i) (placed_rows es)

abbrev pub AreApart : List (Reverse MergeIteratorHeapEntry) → Type 0
AreApart es = IsDistinct nat_eq (keys_of (placed_rows es))

-- ---- tests of places

same_place : (i j : ℕ) → nat_eq i j ≡ true → i ≡ j
same_place i j e = exact_unsigned_eq i j e

other_place : (i j : ℕ) → i ≢ j → nat_eq i j ≡ false
other_place i j far = by (nat_eq i j) refl
  where
    by : (b : Bool) → nat_eq i j ≡ b → nat_eq i j ≡ false
    by true e = absurd (far (same_place i j e))
    by false e = e

-- ---- lists that are made from a function of the place

made_alike : (f g : ℕ → Option RowEntry) → (a n : ℕ) → ((j : ℕ) → a ≤ j → j < a + n → f j ≡ g j) → map f (range_with_len a n) ≡ map g (range_with_len a n)
made_alike f g a zero same = refl
made_alike f g a (suc n) same =
    ap (λ (h : Option RowEntry). h ∷ map f (range_with_len (a + 1) n)) (same a (omega arith) (omega arith))
    ∙ ap (λ (hs : List (Option RowEntry)). g a ∷ hs) (made_alike f g (a + 1) n (λ j le lt. same j (omega (arith, le)) (omega (arith, lt))))

made_set : (f g : ℕ → Option RowEntry) → (a n m k : ℕ) → a + m ≡ k → m < n → ((j : ℕ) → j ≢ k → f j ≡ g j) → map g (range_with_len a n) ≡ set (map f (range_with_len a n)) m (g k)
made_set f g a zero m k at lt same = absurd (omega (arith, lt))
made_set f g a (suc n) zero k at lt same =
    let here : a ≡ k = omega (arith, at) in
    ap (λ j. g j ∷ map g (range_with_len (a + 1) n)) here
    ∙ ap (λ (hs : List (Option RowEntry)). g k ∷ hs) (made_alike g f (a + 1) n (λ j le _. let far : j ≢ k = λ e. absurd (omega (arith, le, here, e)) in sym (same j far)))
made_set f g a (suc n) (suc m) k at lt same =
    let far : a ≢ k = λ e. absurd (omega (arith, at, e)) in
    ap (λ (h : Option RowEntry). h ∷ map g (range_with_len (a + 1) n)) (sym (same a far))
    ∙ ap (λ (hs : List (Option RowEntry)). f a ∷ hs) (made_set f g (a + 1) n m k (omega (arith, at)) (omega (arith, lt)) same)

made_at : (f : ℕ → Option RowEntry) (a n i : ℕ) (h : Option RowEntry) → slice_get (map f (range_with_len a n)) i ≡ Some h → f (a + i) ≡ h
made_at f a zero i h e = absurd (cc e)
made_at f a (suc n) zero h e = let same : a + 0 ≡ a = add-zero a in ap f same ∙ some_is (f a) h e
  where
    some_is : (x y : Option RowEntry) → ◌≡◌ {A = Option (Option RowEntry)} (Some x) (Some y) → x ≡ y
    some_is x y q = cc q
made_at f a (suc n) (suc i) h e = let same : a + suc i ≡ (a + 1) + i = omega arith in ap f same ∙ made_at f (a + 1) n i h e

made_within : (f : ℕ → Option RowEntry) (a n i : ℕ) → i < n → slice_get (map f (range_with_len a n)) i ≡ Some (f (a + i))
made_within f a zero i lt = absurd (omega (arith, lt))
made_within f a (suc n) zero lt = let same : a ≡ a + 0 = sym (add-zero a) in ap (λ j. Some (f j)) same
made_within f a (suc n) (suc i) lt = let same : (a + 1) + i ≡ a + suc i = omega arith in made_within f (a + 1) n i (omega (arith, lt)) ∙ ap (λ j. Some (f j)) same

-- ---- rows of entries

apart_same : (es fs : List (Reverse MergeIteratorHeapEntry)) → IsPermutation es fs → AreApart es → AreApart fs
apart_same es fs p d =
    IsDistinct-IsPermutation nat_eq nat_eq_equiv.symm (keys_of (placed_rows es)) (keys_of (placed_rows fs))
    (IsPermutation-map (λ (w : ℕ × RowEntry). w.0) (placed_rows es) (placed_rows fs) (IsPermutation-map (λ (e : Reverse MergeIteratorHeapEntry). (e.0.index, e.0.row)) es fs p)) d

row_kept : (es fs : List (Reverse MergeIteratorHeapEntry)) → IsPermutation es fs → AreApart fs → (i : ℕ) (x : RowEntry) → row_at es i ≡ Some x → row_at fs i ≡ Some x
row_kept es fs p d i x e =
    lookup-from_Contains nat_eq_equiv i x (placed_rows fs) d
    (Contains-permutation (placed_rows es) (placed_rows fs) (i, x) (IsPermutation-map (λ (e : Reverse MergeIteratorHeapEntry). (e.0.index, e.0.row)) es fs p)
    (Contains-from_lookup same_place i x (placed_rows es) e))

-- The same entries in another order have the same rows.
row_same : (es fs : List (Reverse MergeIteratorHeapEntry)) → IsPermutation es fs → AreApart es → (i : ℕ) → row_at es i ≡ row_at fs i
row_same es fs p d i = by (row_at es i) (row_at fs i) refl refl
  where
    by : (a b : Option RowEntry) → row_at es i ≡ a → row_at fs i ≡ b → row_at es i ≡ row_at fs i
    by (Some x) b e f = e ∙ sym (row_kept es fs p (apart_same es fs p d) i x e)
    by None (Some x) e f = row_kept fs es (IsPermutation-sym es fs p) d i x f ∙ sym f
    by None None e f = e ∙ sym f

heads_same : (es fs : List (Reverse MergeIteratorHeapEntry)) (n : ℕ) → IsPermutation es fs → AreApart es → heads_of n es ≡ heads_of n fs
heads_same es fs n p d = made_alike (row_at es) (row_at fs) 0 n (λ j _ _. row_same es fs p d j)

-- What holds of each entry holds of the row at a place.
found_holds : (P : ℕ → RowEntry → Type 0) (es : List (Reverse MergeIteratorHeapEntry)) → AllByRecursion (λ e. P e.0.index e.0.row) es → (i : ℕ) (x : RowEntry) → row_at es i ≡ Some x → P i x
found_holds P [] all i x e = absurd (cc e)
found_holds P (e ∷ es) all i x is = by (nat_eq i e.0.index) refl is (λ f. found_holds P es all.1 i x f)
  where
    by : (b : Bool) → nat_eq i e.0.index ≡ b → cond b (Some e.0.row) (row_at es i) ≡ Some x → (row_at es i ≡ Some x → P i x) → P i x
    by true q f later = let g : e.0.row ≡ x = cc f in subst (λ j. P j x) (sym (same_place i e.0.index q)) (subst (P e.0.index) g all.0)
    by false q f later = later f

within_same : (P : Reverse MergeIteratorHeapEntry → Type 0) (es fs : List (Reverse MergeIteratorHeapEntry)) → IsPermutation es fs → AllByRecursion P es → AllByRecursion P fs
within_same P es fs p all = recursion_from_All P fs (All-permutation P es fs p (All-from_recursion P es all))

-- No other entry has the place of the first one.
none_after : (e : Reverse MergeIteratorHeapEntry) (es : List (Reverse MergeIteratorHeapEntry)) → AreApart (e ∷ es) → row_at es e.0.index ≡ None
none_after e es d = absent es (IsDistinct-head nat_eq e.0.index (keys_of (placed_rows es)) d)
  where
    absent : (es : List (Reverse MergeIteratorHeapEntry)) → AllByRecursion (λ j. nat_eq e.0.index j ≡ false) (keys_of (placed_rows es)) → row_at es e.0.index ≡ None
    absent [] all = refl
    absent (d ∷ es) all = ap (λ b. cond b (Some d.0.row) (row_at es e.0.index)) all.0 ∙ absent es all.1

first_row : (e : Reverse MergeIteratorHeapEntry) (es : List (Reverse MergeIteratorHeapEntry)) → row_at (e ∷ es) e.0.index ≡ Some e.0.row
first_row e es = ap (λ b. cond b (Some e.0.row) (row_at es e.0.index)) (nat_eq_equiv.refl e.0.index)

later_row : (e : Reverse MergeIteratorHeapEntry) (es : List (Reverse MergeIteratorHeapEntry)) (j : ℕ) → j ≢ e.0.index → row_at (e ∷ es) j ≡ row_at es j
later_row e es j far = ap (λ b. cond b (Some e.0.row) (row_at es j)) (other_place j e.0.index far)

-- ---- a heap whose top is replaced or removed

-- If an entry is exchanged for one of the same source, the heads stay, except that this source has the
-- new row.
pub exchanged : (order : IterationOrder) (n : ℕ) (es rest fs : List (Reverse MergeIteratorHeapEntry)) (e d : Reverse MergeIteratorHeapEntry) → AreHeads order n es → IsPermutation es (e ∷ rest) → IsPermutation (d ∷ rest) fs → IsHeap (λ a b. entry_cmp b.0 a.0) fs → d.0.index ≡ e.0.index → d.0.order ≡ e.0.order
    → AreHeads order n fs × (heads_of n fs ≡ set (heads_of n es) e.0.index (Some d.0.row))
exchanged order n es rest fs e d a p q heap at same = (record { heap = heap; within = within_same P (d ∷ rest) fs q ((same ∙ all.0.0, subst (λ j. j < n) (sym at) all.0.1), all.1); apart = apart_same (d ∷ rest) fs q apart }, heads)
  where
    P : Reverse MergeIteratorHeapEntry → Type 0
    P = λ e. (e.0.order ≡ order) × (e.0.index < n)

    all : AllByRecursion P (e ∷ rest)
    all = within_same P es (e ∷ rest) p a.within

    apart : AreApart (d ∷ rest)
    apart = subst (λ j. IsDistinct nat_eq (j ∷ keys_of (placed_rows rest))) (sym at) (apart_same es (e ∷ rest) p a.apart)

    there : row_at (d ∷ rest) e.0.index ≡ Some d.0.row
    there = ap (row_at (d ∷ rest)) (sym at) ∙ first_row d rest

    heads : heads_of n fs ≡ set (heads_of n es) e.0.index (Some d.0.row)
    heads =
        sym (heads_same (d ∷ rest) fs n q apart)
        ∙ (made_set (row_at (e ∷ rest)) (row_at (d ∷ rest)) 0 n e.0.index e.0.index (zero-add e.0.index) all.0.1 (λ j far. later_row e rest j far ∙ sym (later_row d rest j (λ g. far (g ∙ at))))
        ∙ (ap (λ (h : Option RowEntry). set (heads_of n (e ∷ rest)) e.0.index h) there ∙ ap (λ (hs : List (Option RowEntry)). set hs e.0.index (Some d.0.row)) (sym (heads_same es (e ∷ rest) n p a.apart))))

-- If an entry is removed, the heads stay, except that its source has none.
pub removed : (order : IterationOrder) (n : ℕ) (es fs : List (Reverse MergeIteratorHeapEntry)) (e : Reverse MergeIteratorHeapEntry) → AreHeads order n es → IsPermutation es (e ∷ fs) → IsHeap (λ a b. entry_cmp b.0 a.0) fs
    → AreHeads order n fs × (heads_of n fs ≡ set (heads_of n es) e.0.index None)
removed order n es fs e a p heap = (record { heap = heap; within = all.1; apart = IsDistinct-tail nat_eq e.0.index (keys_of (placed_rows fs)) apart }, heads)
  where
    P : Reverse MergeIteratorHeapEntry → Type 0
    P = λ e. (e.0.order ≡ order) × (e.0.index < n)

    all : AllByRecursion P (e ∷ fs)
    all = within_same P es (e ∷ fs) p a.within

    apart : AreApart (e ∷ fs)
    apart = apart_same es (e ∷ fs) p a.apart

    heads : heads_of n fs ≡ set (heads_of n es) e.0.index None
    heads =
        made_set (row_at (e ∷ fs)) (row_at fs) 0 n e.0.index e.0.index (zero-add e.0.index) all.0.1 (λ j far. later_row e fs j far)
        ∙ (ap (λ (h : Option RowEntry). set (heads_of n (e ∷ fs)) e.0.index h) (none_after e fs apart) ∙ ap (λ (hs : List (Option RowEntry)). set hs e.0.index None) (sym (heads_same es (e ∷ fs) n p a.apart)))

-- ---- heads that are added

wider : (order : IterationOrder) (n : ℕ) (es : List (Reverse MergeIteratorHeapEntry)) → AllByRecursion (λ e. (e.0.order ≡ order) × (e.0.index < n)) es → AllByRecursion (λ e. (e.0.order ≡ order) × (e.0.index < n + 1)) es
wider order n [] all = tt
wider order n (e ∷ es) all = ((all.0.0, let lt = all.0.1 in omega (arith, lt)), wider order n es all.1)

beyond : (order : IterationOrder) (n : ℕ) (es : List (Reverse MergeIteratorHeapEntry)) → AllByRecursion (λ e. (e.0.order ≡ order) × (e.0.index < n)) es → AllByRecursion (λ j. nat_eq n j ≡ false) (keys_of (placed_rows es))
beyond order n [] all = tt
beyond order n (e ∷ es) all = (other_place n e.0.index (λ g. let lt = all.0.1 in absurd (omega (arith, lt, g))), beyond order n es all.1)

none_beyond : (n : ℕ) (es : List (Reverse MergeIteratorHeapEntry)) → AllByRecursion (λ j. nat_eq n j ≡ false) (keys_of (placed_rows es)) → row_at es n ≡ None
none_beyond n [] all = refl
none_beyond n (e ∷ es) all = ap (λ b. cond b (Some e.0.row) (row_at es n)) all.0 ∙ none_beyond n es all.1

pub added_none : (order : IterationOrder) (n : ℕ) (es : List (Reverse MergeIteratorHeapEntry)) → AreHeads order n es → AreHeads order (n + 1) es × (heads_of (n + 1) es ≡ heads_of n es ++ None ∷ [])
added_none order n es a = (
  record { heap = a.heap; within = wider order n es a.within; apart = a.apart },
  map-range_with_len_more (row_at es) 0 n n (zero-add n) ∙ ap (λ (h : Option RowEntry). heads_of n es ++ h ∷ []) (none_beyond n es (beyond order n es a.within)),
)

-- If an entry of one more source is added, its row is added to the heads.
pub added : (order : IterationOrder) (n : ℕ) (es fs : List (Reverse MergeIteratorHeapEntry)) (e : Reverse MergeIteratorHeapEntry) → AreHeads order n es → IsPermutation (e ∷ es) fs → IsHeap (λ a b. entry_cmp b.0 a.0) fs → e.0.order ≡ order → e.0.index ≡ n
    → AreHeads order (n + 1) fs × (heads_of (n + 1) fs ≡ heads_of n es ++ Some e.0.row ∷ [])
added order n es fs e a p heap same at = (record { heap = heap; within = within_same P (e ∷ es) fs p ((same, omega (arith, at)), wider order n es a.within); apart = apart_same (e ∷ es) fs p apart }, heads)
  where
    P : Reverse MergeIteratorHeapEntry → Type 0
    P = λ e. (e.0.order ≡ order) × (e.0.index < n + 1)

    apart : AreApart (e ∷ es)
    apart = IsDistinct-cons nat_eq e.0.index (keys_of (placed_rows es)) (subst (λ j. AllByRecursion (λ i. nat_eq j i ≡ false) (keys_of (placed_rows es))) (sym at) (beyond order n es a.within)) a.apart

    heads : heads_of (n + 1) fs ≡ heads_of n es ++ Some e.0.row ∷ []
    heads =
        sym (heads_same (e ∷ es) fs (n + 1) p apart)
        ∙ (map-range_with_len_more (row_at (e ∷ es)) 0 n n (zero-add n)
        ∙ (ap (λ (hs : List (Option RowEntry)). hs ++ row_at (e ∷ es) n ∷ []) (made_alike (row_at (e ∷ es)) (row_at es) 0 n (λ j _ lt. later_row e es j (λ g. absurd (omega (arith, lt, g, at)))))
        ∙ ap (λ (h : Option RowEntry). heads_of n es ++ h ∷ []) (ap (row_at (e ∷ es)) (sym at) ∙ first_row e es)))

-- ---- the least head

pub best_none : (order : IterationOrder) (a n : ℕ) → best order (map (row_at []) (range_with_len a n)) ≡ None
best_none order a zero = refl
best_none order a (suc n) = ap (choose order None) (best_none order (a + 1) n)

-- The row that is found is the head at its place.
best_at : (order : IterationOrder) (hs : List (Option RowEntry)) (p : ℕ × RowEntry) → best order hs ≡ Some p → slice_get hs p.0 ≡ Some (Some p.1)
best_at order [] p e = absurd (cc e)
best_at order (h ∷ hs) p e = by h (best order hs) refl e (λ q f. best_at order hs q f)
  where
    place : (q : ℕ × RowEntry) → Some (q.0 + 1, q.1) ≡ Some p → slice_get hs q.0 ≡ Some (Some q.1) → slice_get (h ∷ hs) p.0 ≡ Some (Some p.1)
    place q f at =
        let g : (q.0 + 1, q.1) ≡ p = cc f in
        subst (λ (w : ℕ × RowEntry). slice_get (h ∷ hs) w.0 ≡ Some (Some w.1)) g (ap (slice_get (h ∷ hs)) (add-one q.0) ∙ at)

    front : (x : RowEntry) → h ≡ Some x → ◌≡◌ {A = Option (ℕ × RowEntry)} (Some (0, x)) (Some p) → slice_get (h ∷ hs) p.0 ≡ Some (Some p.1)
    front x is f = let g : (0, x) ≡ p = cc f in subst (λ (w : ℕ × RowEntry). slice_get (h ∷ hs) w.0 ≡ Some (Some w.1)) g (ap (λ (w : Option RowEntry). Some w) is)

    tested : (x : RowEntry) (q : ℕ × RowEntry) (t : Bool) → h ≡ Some x → slice_get hs q.0 ≡ Some (Some q.1) → cond {A = Option (ℕ × RowEntry)} t (Some (0, x)) (Some (q.0 + 1, q.1)) ≡ Some p → slice_get (h ∷ hs) p.0 ≡ Some (Some p.1)
    tested x q true is at f = front x is f
    tested x q false is at f = place q f at

    by : (g : Option RowEntry) (b : Option (ℕ × RowEntry)) → h ≡ g → choose order g b ≡ Some p → ((q : ℕ × RowEntry) → b ≡ Some q → slice_get hs q.0 ≡ Some (Some q.1)) → slice_get (h ∷ hs) p.0 ≡ Some (Some p.1)
    by None None is f at = absurd (cc f)
    by None (Some q) is f at = place q f (at q refl)
    by (Some x) None is f at = front x is f
    by (Some x) (Some q) is f at = tested x q (goes_first order (row_of x) (row_of q.1)) is (at q refl) f

-- A head that goes before each head after it, and before which no head in front of it goes, is the least.
best_is : (order : IterationOrder) (hs : List (Option RowEntry)) (k : ℕ) (x : RowEntry) → slice_get hs k ≡ Some (Some x) → ((i : ℕ) (y : RowEntry) → slice_get hs i ≡ Some (Some y) → i < k → goes_first order (row_of y) (row_of x) ≡ false)
    → ((i : ℕ) (y : RowEntry) → slice_get hs i ≡ Some (Some y) → k < i → goes_first order (row_of x) (row_of y) ≡ true) → best order hs ≡ Some (k, x)
best_is order [] k x at front after = absurd (cc at)
best_is order (h ∷ hs) zero x at front after =
    let is : h ≡ Some x = cc at in
    ap (λ (w : Option RowEntry). choose order w (best order hs)) is ∙ by (best order hs) refl
  where
    by : (b : Option (ℕ × RowEntry)) → best order hs ≡ b → choose order (Some x) b ≡ Some (0, x)
    by None e = refl
    by (Some p) e = ap (λ b. cond b (Some (0, x)) (Some (p.0 + 1, p.1))) (after (suc p.0) p.1 (best_at order hs p e) (omega arith))
best_is order (h ∷ hs) (suc k) x at front after =
    ap (choose order h) (best_is order hs k x at (λ i y e lt. front (suc i) y e (omega (arith, lt))) (λ i y e lt. after (suc i) y e (omega (arith, lt)))) ∙ by h refl
  where
    by : (w : Option RowEntry) → h ≡ w → choose order w (Some (k, x)) ≡ Some (suc k, x)
    by None e = ap (λ (n : ℕ). Some (n, x)) (add-one k)
    by (Some z) e = ap (λ b. cond b (Some (0, z)) (Some (k + 1, x))) (front 0 z (ap (λ (w : Option RowEntry). Some w) e) (omega arith)) ∙ ap (λ (n : ℕ). Some (n, x)) (add-one k)

-- ---- the order of entries, and that of rows

before_place : (c d : Ordering) → is_lt (ordering_then c (ordering_then d Less)) ≡ false → not (is_gt (ordering_then c d)) ≡ false
before_place Less d h = absurd (cc h)
before_place Greater d h = refl
before_place Equal Less h = absurd (cc h)
before_place Equal Equal h = absurd (cc h)
before_place Equal Greater h = refl

after_place : (c d : Ordering) → is_lt (ordering_then c (ordering_then d Greater)) ≡ false → not (is_gt (ordering_then (ordering_reverse c) (ordering_reverse d))) ≡ true
after_place Less d h = absurd (cc h)
after_place Greater d h = refl
after_place Equal Less h = absurd (cc h)
after_place Equal Equal h = refl
after_place Equal Greater h = refl

-- An entry that is not less than another one, at equal orders.
abbrev IsNoLess : IterationOrder → ℕ → RowEntry → ℕ → RowEntry → Type 0
IsNoLess order i y k x = is_lt (ordering_then (keys_in order y.key x.key) (ordering_then (nat_cmp x.seq y.seq) (nat_cmp i k))) ≡ false

in_front : (order : IterationOrder) (i k : ℕ) (y x : RowEntry) → IsNoLess order i y k x → i < k → goes_first order (row_of y) (row_of x) ≡ false
in_front order i k y x h lt = before_place (keys_in order y.key x.key) (nat_cmp x.seq y.seq) (subst (λ o. is_lt (ordering_then (keys_in order y.key x.key) (ordering_then (nat_cmp x.seq y.seq) o)) ≡ false) (sym (nat_cmp_is i k Less lt)) h)

after_it : (order : IterationOrder) (i k : ℕ) (y x : RowEntry) → IsNoLess order i y k x → k < i → goes_first order (row_of x) (row_of y) ≡ true
after_it order i k y x h lt =
    ap (λ o. not (is_gt (ordering_then o (nat_cmp y.seq x.seq)))) ((keys_total order).antisymm x.key y.key)
    ∙ (ap (λ o. not (is_gt (ordering_then (ordering_reverse (keys_in order y.key x.key)) o))) (nat_cmp_total.antisymm y.seq x.seq)
    ∙ after_place (keys_in order y.key x.key) (nat_cmp x.seq y.seq) (subst (λ o. is_lt (ordering_then (keys_in order y.key x.key) (ordering_then (nat_cmp x.seq y.seq) o)) ≡ false) (sym (nat_cmp_is i k Greater lt)) h))

same_order : (order : IterationOrder) → order_cmp order order ≡ Equal
same_order Ascending = refl
same_order Descending = refl

-- If an entry is not less than another one, it is not less by key, sequence and place.
no_less : (order : IterationOrder) (d e : Reverse MergeIteratorHeapEntry) → d.0.order ≡ order → e.0.order ≡ order → is_lt (entry_cmp d.0 e.0) ≡ false → IsNoLess order d.0.index d.0.row e.0.index e.0.row
no_less order d e f g h = subst F (same_order order) (subst D f (subst C g h))
  where
    after : Ordering
    after = ordering_then (nat_cmp e.0.row.seq d.0.row.seq) (nat_cmp d.0.index e.0.index)

    C : IterationOrder → Type 0
    C = λ o. is_lt (ordering_then (ordering_then (order_cmp d.0.order o) (keys_in d.0.order d.0.row.key e.0.row.key)) after) ≡ false

    D : IterationOrder → Type 0
    D = λ o. is_lt (ordering_then (ordering_then (order_cmp o order) (keys_in o d.0.row.key e.0.row.key)) after) ≡ false

    F : Ordering → Type 0
    F = λ o. is_lt (ordering_then (ordering_then o (keys_in order d.0.row.key e.0.row.key)) after) ≡ false

none_less : (order : IterationOrder) (n : ℕ) (e : Reverse MergeIteratorHeapEntry) → e.0.order ≡ order → (es : List (Reverse MergeIteratorHeapEntry)) → AllByRecursion (λ d. (d.0.order ≡ order) × (d.0.index < n)) es → IsUpperBound (λ a b. entry_cmp b.0 a.0) e es
    → AllByRecursion (λ d. IsNoLess order d.0.index d.0.row e.0.index e.0.row) es
none_less order n e g [] all bound = tt
none_less order n e g (d ∷ es) all bound = (no_less order d e all.0.0 g bound.0, none_less order n e g es all.1 bound.1)

-- The top of the heap is the least head.
pub top_is_best : (order : IterationOrder) (n : ℕ) (es rest : List (Reverse MergeIteratorHeapEntry)) (e : Reverse MergeIteratorHeapEntry) → AreHeads order n es → IsPermutation es (e ∷ rest) → IsUpperBound (λ a b. entry_cmp b.0 a.0) e es → best order (heads_of n es) ≡ Some (e.0.index, e.0.row)
top_is_best order n es rest e a p bound = best_is order (heads_of n es) e.0.index e.0.row here (λ i y at lt. in_front order i e.0.index y e.0.row (holds i y at) lt) (λ i y at lt. after_it order i e.0.index y e.0.row (holds i y at) lt)
  where
    top : (e.0.order ≡ order) × (e.0.index < n)
    top = (within_same (λ d. (d.0.order ≡ order) × (d.0.index < n)) es (e ∷ rest) p a.within).0

    here : slice_get (heads_of n es) e.0.index ≡ Some (Some e.0.row)
    here = made_within (row_at es) 0 n e.0.index top.1 ∙ ap (λ (h : Option RowEntry). Some h) (ap (row_at es) (zero-add e.0.index) ∙ (row_same es (e ∷ rest) p a.apart e.0.index ∙ first_row e rest))

    holds : (i : ℕ) (y : RowEntry) → slice_get (heads_of n es) i ≡ Some (Some y) → IsNoLess order i y e.0.index e.0.row
    holds i y at = found_holds (λ j z. IsNoLess order j z e.0.index e.0.row) es (none_less order n e top.0 es a.within bound) i y (ap (row_at es) (sym (zero-add i)) ∙ made_at (row_at es) 0 n i (Some y) at)

-- The first element of a list, with the ones after it.
pub at_front : {X : Type 0} (xs : List X) (x : X) → 0 < length xs → x ≡ get_or xs 0 x → (rest : List X) × IsPermutation xs (x ∷ rest)
at_front [] x lt is = absurd (omega (arith, lt))
at_front (y ∷ xs) x lt is = (xs, subst (λ z. IsPermutation (y ∷ xs) (z ∷ xs)) (sym is) (IsPermutation-refl (y ∷ xs)))

pub none_is_best : (order : IterationOrder) (n : ℕ) (es : List (Reverse MergeIteratorHeapEntry)) → es ≡ [] → best order (heads_of n es) ≡ None
none_is_best order n es e = ap (λ (w : List (Reverse MergeIteratorHeapEntry)). best order (heads_of n w)) e ∙ best_none order 0 n

pub nil_of : {X : Type 0} (xs : List X) → (0 < length xs → ⊥) → xs ≡ []
nil_of [] none = refl
nil_of (x ∷ xs) none = absurd (none (omega arith))

pub heads_count : (n : ℕ) (es : List (Reverse MergeIteratorHeapEntry)) → length (heads_of n es) ≡ n
heads_count n es = length-map-range_with_len (row_at es) 0 n

-- Heads as contracts see them, with new rows that are made of the old ones.
pub viewed : (F : HeadRows → List (Option RowEntry)) (h v : HeadRows) (rows : List (Option RowEntry)) → h ≡ v → rows ≡ F h → ◌≡◌ {A = HeadRows} (record { order = h.order; rows = rows }) (record { order = v.order; rows = F v })
viewed F h v rows same made = ap (λ (w : List (Option RowEntry)). record { order = h.order; rows = w }) made ∙ ap (λ (w : HeadRows). record { order = w.order; rows = F w }) same

-- ---- the least head is taken

-- The row that is taken is that of the least head.
pub taken_row : (h v : HeadRows) (k : ℕ) (x : RowEntry) → h ≡ v → best h.order h.rows ≡ Some (k, x) → ◌≡◌ {A = Option RowEntry} (Some x) (option_map (λ p. p.1) (best v.order v.rows))
taken_row h v k x same is = sym (ap (option_map {U = RowEntry} (λ (p : ℕ × RowEntry). p.1)) is) ∙ ap (λ (w : HeadRows). option_map {U = RowEntry} (λ (p : ℕ × RowEntry). p.1) (best w.order w.rows)) same

pub none_taken : (h v : HeadRows) → h ≡ v → best h.order h.rows ≡ None → ◌≡◌ {A = Option RowEntry} None (option_map (λ p. p.1) (best v.order v.rows))
none_taken h v same is = sym (ap (option_map {U = RowEntry} (λ (p : ℕ × RowEntry). p.1)) is) ∙ ap (λ (w : HeadRows). option_map {U = RowEntry} (λ (p : ℕ × RowEntry). p.1) (best w.order w.rows)) same

pub refilled_rows : (h v : HeadRows) (k : ℕ) (x : RowEntry) (head : Option RowEntry) (rows : List (Option RowEntry)) → h ≡ v → best h.order h.rows ≡ Some (k, x) → rows ≡ set h.rows k head
    → ◌≡◌ {A = HeadRows} (record { order = h.order; rows = rows }) (record { order = v.order; rows = refilled_heads (best v.order v.rows) head v.rows })
refilled_rows h v k x head rows same is made = viewed (λ w. refilled_heads (best w.order w.rows) head w.rows) h v rows same (made ∙ sym (ap (λ b. refilled_heads b head h.rows) is))

pub refilled_none : (h v : HeadRows) (head : Option RowEntry) → h ≡ v → best h.order h.rows ≡ None → ◌≡◌ {A = HeadRows} h (record { order = v.order; rows = refilled_heads (best v.order v.rows) head v.rows })
refilled_none h v head same is = viewed (λ w. refilled_heads (best w.order w.rows) head w.rows) h v h.rows same (sym (ap (λ b. refilled_heads b head h.rows) is))

-- ---- the heads are taken out of the heap

-- The entry on top is of one of the sources.
pub top_within : (order : IterationOrder) (n : ℕ) (es fs : List (Reverse MergeIteratorHeapEntry)) (e : Reverse MergeIteratorHeapEntry) → AreHeads order n es → IsPermutation es (e ∷ fs) → e.0.index < n
top_within order n es fs e a p = (within_same (λ d. (d.0.order ≡ order) × (d.0.index < n)) es (e ∷ fs) p a.within).0.1

-- None is taken yet, so the rows of the entries are the heads.
pub none_out : (order : IterationOrder) (n : ℕ) (es : List (Reverse MergeIteratorHeapEntry)) (v : HeadRows) (rows : List (Option RowEntry)) → ◌≡◌ {A = HeadRows} (record { order = order; rows = heads_of n es }) v → rows ≡ map (λ _. None) (range_with_len 0 n)
    → (i : ℕ) → i < n → option_or (row_at es i) (get_or rows i None) ≡ get_or v.rows i None
none_out order n es v rows same made i lt =
    ap (option_or (row_at es i)) (ap (λ (w : List (Option RowEntry)). get_or w i None) made ∙ get_or-map-range_with_len (λ _. None) 0 n i i None lt (zero-add i))
    ∙ (alone (row_at es i) ∙ (sym (get_or-map-range_with_len (row_at es) 0 n i i None lt (zero-add i)) ∙ ap (λ (w : HeadRows). get_or w.rows i None) same))
  where
    alone : (h : Option RowEntry) → option_or h None ≡ h
    alone None = refl
    alone (Some x) = refl

-- The row of an entry that is taken goes to its place.
pub one_out : (order : IterationOrder) (n : ℕ) (es fs : List (Reverse MergeIteratorHeapEntry)) (e : Reverse MergeIteratorHeapEntry) (rows all : List (Option RowEntry)) → AreHeads order n es → IsPermutation es (e ∷ fs) → length rows ≡ n
    → ((i : ℕ) → i < n → option_or (row_at es i) (get_or rows i None) ≡ get_or all i None) → (i : ℕ) → i < n → option_or (row_at fs i) (get_or (set rows e.0.index (Some e.0.row)) i None) ≡ get_or all i None
one_out order n es fs e rows all a p count so_far i lt = by (nat_eq i e.0.index) refl
  where
    apart : AreApart (e ∷ fs)
    apart = apart_same es (e ∷ fs) p a.apart

    before : option_or (row_at (e ∷ fs) i) (get_or rows i None) ≡ get_or all i None
    before = ap (λ h. option_or h (get_or rows i None)) (sym (row_same es (e ∷ fs) p a.apart i)) ∙ so_far i lt

    by : (b : Bool) → nat_eq i e.0.index ≡ b → option_or (row_at fs i) (get_or (set rows e.0.index (Some e.0.row)) i None) ≡ get_or all i None
    by true q =
        let here : i ≡ e.0.index = same_place i e.0.index q in
        let within : e.0.index < length rows = omega (arith, lt, count, here) in
        ap (λ h. option_or h (get_or (set rows e.0.index (Some e.0.row)) i None)) (ap (row_at fs) here ∙ none_after e fs apart)
        ∙ (ap (λ j. get_or (set rows e.0.index (Some e.0.row)) j None) here
        ∙ (get_or-set_same rows e.0.index (Some e.0.row) None within
        ∙ (sym (ap (λ h. option_or h (get_or rows i None)) (ap (row_at (e ∷ fs)) here ∙ first_row e fs)) ∙ before)))
    by false q =
        let far : i ≢ e.0.index = λ g. let clash : true ≡ false = sym (nat_eq_equiv.refl e.0.index) ∙ (ap (λ j. nat_eq j e.0.index) (sym g) ∙ q) in absurd (cc clash) in
        ap (option_or (row_at fs i)) (get_or-set_other rows e.0.index i (Some e.0.row) None far) ∙ (ap (λ h. option_or h (get_or rows i None)) (sym (later_row e fs i far)) ∙ before)

-- Once no entry is left, all heads are taken.
pub all_out : (n : ℕ) (es : List (Reverse MergeIteratorHeapEntry)) (rows all : List (Option RowEntry)) → es ≡ [] → length rows ≡ n → length all ≡ n → ((i : ℕ) → i < n → option_or (row_at es i) (get_or rows i None) ≡ get_or all i None) → rows ≡ all
all_out n es rows all none count same_count out = ext_get_or None rows all (count ∙ sym same_count) (λ i lt. ap (λ w. option_or (row_at w i) (get_or rows i None)) (sym none) ∙ out i (omega (arith, lt, count)))

pub none_there : (order : IterationOrder) (es : List (Reverse MergeIteratorHeapEntry)) → es ≡ [] → IsHeap (λ a b. entry_cmp b.0 a.0) es → AreHeads order 0 es
none_there order es none heap = record {
  heap = heap;
  within = subst (AllByRecursion (λ e. (e.0.order ≡ order) × (e.0.index < 0))) (sym none) tt;
  apart = subst AreApart (sym none) (IsDistinct-from_apart nat_eq [] (λ i j d lt within. absurd (omega (arith, within))));
}
