-- The merge of lists that are all sought to a key is their merge, sought to the key.
use Rattle.std.proofs.Common.{◌≡◌, ◌∙◌, sym, refl, ap, subst, ℕ, List, [], ◌∷◌, map, Bool, true, false, cond}
use Rattle.std.specs.List.{AllByRecursion}
use Rattle.std.specs.declared.cmp.Ordering.{Ordering}
use Rattle.std.specs.declared.cmp.Ordering.TheVariants.{Less, Equal, Greater}
use Rattle.std.specs.Ordering.{is_gt, is_lt, ordering_reverse}
use Rattle.std.proofs.lemmas.Cmp.{nat_list_cmp_total}
use Rattle.row_model.specs.Rows.{Row, key_cmp}
use Rattle.row_laws.specs.Keys.{is_below}
use Rattle.fleet_iter.specs.Iteration.{AreRising, from_key}
use Rattle.fleet_iter.specs.declared.iterator.IterationOrder.{IterationOrder}
use Rattle.fleet_iter.specs.Merge.{merge_two, merge_into, merged_lists, goes_first, hides, given_after, given_rows}
use Rattle.fleet_iter.proofs.RisingMerges.{IsUpTo, up_to_all}
use Rattle.fleet_iter.proofs.Dedup.{hides_key}

-- ---- what holds of all rows of a merge holds of those of each list

in_into : (P : Row → Type 0) (order : IterationOrder) (x : Row) (xs : List Row) → ((zs : List Row) → AllByRecursion P (merge_two order xs zs) → AllByRecursion P xs × AllByRecursion P zs) → (ys : List Row) → AllByRecursion P (merge_into order x (merge_two order xs) ys)
    → AllByRecursion P (x ∷ xs) × AllByRecursion P ys
in_into P order x xs rest [] all = ((all.0, (rest [] all.1).0), tt)
in_into P order x xs rest (y ∷ ys) all = by (goes_first order x y) all (in_into P order x xs rest ys)
  where
    by : (b : Bool) → AllByRecursion P (cond b (x ∷ merge_two order xs (y ∷ ys)) (y ∷ merge_into order x (merge_two order xs) ys)) → (AllByRecursion P (merge_into order x (merge_two order xs) ys) → AllByRecursion P (x ∷ xs) × AllByRecursion P ys)
        → AllByRecursion P (x ∷ xs) × AllByRecursion P (y ∷ ys)
    by true all later = let r = rest (y ∷ ys) all.1 in ((all.0, r.0), r.1)
    by false all later = let r = later all.1 in (r.0, (all.0, r.1))

in_two : (P : Row → Type 0) (order : IterationOrder) (xs ys : List Row) → AllByRecursion P (merge_two order xs ys) → AllByRecursion P xs × AllByRecursion P ys
in_two P order [] ys all = (tt, all)
in_two P order (x ∷ xs) ys all = in_into P order x xs (λ zs k. in_two P order xs zs k) ys all

-- ---- the lists of a rising merge rise

-- If the merge of two lists rises, both lists rise, given that this holds of the first list without its
-- first row.
parts_into : (order : IterationOrder) (x : Row) (xs : List Row) → ((zs : List Row) → AreRising (merge_two order xs zs) → AreRising xs × AreRising zs) → (ys : List Row) → AreRising (merge_into order x (merge_two order xs) ys) → AreRising (x ∷ xs) × AreRising ys
parts_into order x xs rest [] r = (((in_two (IsUpTo x) order xs [] r.0).0, (rest [] r.1).0), tt)
parts_into order x xs rest (y ∷ ys) r = by (goes_first order x y) r (parts_into order x xs rest ys)
  where
    by : (b : Bool) → AreRising (cond b (x ∷ merge_two order xs (y ∷ ys)) (y ∷ merge_into order x (merge_two order xs) ys)) → (AreRising (merge_into order x (merge_two order xs) ys) → AreRising (x ∷ xs) × AreRising ys) → AreRising (x ∷ xs) × AreRising (y ∷ ys)
    by true r later =
        let p = rest (y ∷ ys) r.1 in
        (((in_two (IsUpTo x) order xs (y ∷ ys) r.0).0, p.0), p.1)
    by false r later =
        let p = later r.1 in
        (p.0, ((in_into (IsUpTo y) order x xs (λ zs k. in_two (IsUpTo y) order xs zs k) ys r.0).1, p.1))

parts_two : (order : IterationOrder) (xs ys : List Row) → AreRising (merge_two order xs ys) → AreRising xs × AreRising ys
parts_two order [] ys r = (tt, r)
parts_two order (x ∷ xs) ys r = parts_into order x xs (λ zs k. parts_two order xs zs k) ys r

pub parts_rise : (order : IterationOrder) (ls : List (List Row)) → AreRising (merged_lists order ls) → AllByRecursion AreRising ls
parts_rise order [] r = tt
parts_rise order (l ∷ ls) r = let p = parts_two order l (merged_lists order ls) r in (p.0, parts_rise order ls p.1)

-- ---- each list may be sought

less : (o : Ordering) → is_lt o ≡ true → o ≡ Less
less Less h = refl
less Equal h = absurd (cc h)
less Greater h = absurd (cc h)

up_below : (key : List ℕ) (a b : Row) → IsUpTo a b → is_below key b ≡ true → is_below key a ≡ true
up_below key a b up low = by (key_cmp a.key b.key) refl up
  where
    by : (o : Ordering) → key_cmp a.key b.key ≡ o → is_gt o ≡ false → is_below key a ≡ true
    by Less e up = ap is_lt (nat_list_cmp_total.trans a.key b.key key e (less (key_cmp b.key key) low))
    by Equal e up = ap is_lt (nat_list_cmp_total.congr a.key b.key key e) ∙ low
    by Greater e up = absurd (cc up)

apart : (b : Bool) → b ≡ true → b ≡ false → true ≡ false
apart b h g = sym h ∙ g

-- The merge of two lists from a key on is their merge from that key on, given that this holds of the
-- first list without its first row.
seek_into : (order : IterationOrder) (key : List ℕ) (x : Row) (xs : List Row) → ((zs : List Row) → AreRising (merge_two order xs zs) → merge_two order (from_key key xs) (from_key key zs) ≡ from_key key (merge_two order xs zs))
    → (ys : List Row) → AreRising (merge_into order x (merge_two order xs) ys) → merge_two order (from_key key (x ∷ xs)) (from_key key ys) ≡ from_key key (merge_into order x (merge_two order xs) ys)
seek_into order key x xs rest [] r = by (is_below key x) (rest [] r.1)
  where
    by : (d : Bool) → merge_two order (from_key key xs) [] ≡ from_key key (merge_two order xs []) → merge_two order (cond d (from_key key xs) (x ∷ xs)) [] ≡ cond d (from_key key (merge_two order xs [])) (x ∷ merge_two order xs [])
    by true h = h
    by false h = refl
seek_into order key x xs rest (y ∷ ys) r = by (is_below key x) refl (is_below key y) refl (goes_first order x y) refl r (seek_into order key x xs rest ys)
  where
    by : (d : Bool) → is_below key x ≡ d → (e : Bool) → is_below key y ≡ e → (b : Bool) → goes_first order x y ≡ b → AreRising (cond b (x ∷ merge_two order xs (y ∷ ys)) (y ∷ merge_into order x (merge_two order xs) ys))
        → (AreRising (merge_into order x (merge_two order xs) ys) → merge_two order (from_key key (x ∷ xs)) (from_key key ys) ≡ from_key key (merge_into order x (merge_two order xs) ys))
        → merge_two order (cond d (from_key key xs) (x ∷ xs)) (cond e (from_key key ys) (y ∷ ys)) ≡ from_key key (cond b (x ∷ merge_two order xs (y ∷ ys)) (y ∷ merge_into order x (merge_two order xs) ys))
    by true dx e ey true gb r later =
        let m = merge_two order xs (y ∷ ys) in
        ap (λ c. merge_two order (from_key key xs) (cond c (from_key key ys) (y ∷ ys))) (sym ey)
        ∙ (rest (y ∷ ys) r.1 ∙ sym (ap (λ c. cond c (from_key key m) (x ∷ m)) dx))
    by d dx true ey false gb r later =
        let n = merge_into order x (merge_two order xs) ys in
        ap (λ c. merge_two order (cond c (from_key key xs) (x ∷ xs)) (from_key key ys)) (sym dx)
        ∙ (later r.1 ∙ sym (ap (λ c. cond c (from_key key n) (y ∷ n)) ey))
    by true dx false ey false gb r later =
        let up : IsUpTo y x = (in_into (IsUpTo y) order x xs (λ zs k. in_two (IsUpTo y) order xs zs k) ys r.0).0.0 in
        let clash = apart (is_below key y) (up_below key y x up dx) ey in
        absurd (cc clash)
    by false dx true ey true gb r later =
        let up : IsUpTo x y = (in_two (IsUpTo x) order xs (y ∷ ys) r.0).1.0 in
        let clash = apart (is_below key x) (up_below key x y up ey) dx in
        absurd (cc clash)
    by false dx false ey true gb r later =
        let m = merge_two order xs (y ∷ ys) in
        ap (λ c. cond c (x ∷ m) (y ∷ merge_into order x (merge_two order xs) ys)) gb ∙ sym (ap (λ c. cond c (from_key key m) (x ∷ m)) dx)
    by false dx false ey false gb r later =
        let n = merge_into order x (merge_two order xs) ys in
        ap (λ c. cond c (x ∷ merge_two order xs (y ∷ ys)) (y ∷ n)) gb ∙ sym (ap (λ c. cond c (from_key key n) (y ∷ n)) ey)

seek_two : (order : IterationOrder) (key : List ℕ) (xs ys : List Row) → AreRising (merge_two order xs ys) → merge_two order (from_key key xs) (from_key key ys) ≡ from_key key (merge_two order xs ys)
seek_two order key [] ys r = refl
seek_two order key (x ∷ xs) ys r = seek_into order key x xs (λ zs k. seek_two order key xs zs k) ys r

pub seek_merged : (order : IterationOrder) (key : List ℕ) (ls : List (List Row)) → AreRising (merged_lists order ls) → merged_lists order (map (from_key key) ls) ≡ from_key key (merged_lists order ls)
seek_merged order key [] r = refl
seek_merged order key (l ∷ ls) r =
    let p = parts_two order l (merged_lists order ls) r in
    ap (merge_two order (from_key key l)) (seek_merged order key ls p.1) ∙ seek_two order key l (merged_lists order ls) r

-- ---- if the rows that are given rise, all merged rows rise

alike : (o : Ordering) → o ≡ ordering_reverse o → is_gt o ≡ false
alike Less e = absurd (cc e)
alike Equal e = refl
alike Greater e = absurd (cc e)

-- If what dedup gives of some rows rises, the rows rise.
rising_after : (r : Row) (rows : List Row) → AreRising (r ∷ given_after r rows) → AreRising (r ∷ rows)
rising_after r [] h = h
rising_after r (q ∷ rows) h = by (hides r q) refl h (rising_after r rows) (rising_after q rows)
  where
    by : (b : Bool) → hides r q ≡ b → AreRising (r ∷ cond b (given_after r rows) (q ∷ given_after q rows)) → (AreRising (r ∷ given_after r rows) → AreRising (r ∷ rows)) → (AreRising (q ∷ given_after q rows) → AreRising (q ∷ rows)) → AreRising (r ∷ q ∷ rows)
    by true e h one other =
        let k = one h in
        let same : r.key ≡ q.key = hides_key r q e in
        let up : IsUpTo r q = ap (λ (w : List ℕ). is_gt (key_cmp r.key w)) (sym same) ∙ alike (key_cmp r.key r.key) (nat_list_cmp_total.antisymm r.key r.key) in
        ((up, k.0), (subst (λ (w : List ℕ). AllByRecursion (λ (x : Row). is_gt (key_cmp w x.key) ≡ false) rows) same k.0, k.1))
    by false e h one other =
        let k = other h.1 in
        ((h.0.0, up_to_all r q rows h.0.0 k.0), k)

pub rising_given : (dedup : Bool) (rows : List Row) → AreRising (given_rows dedup rows) → AreRising rows
rising_given false rows h = h
rising_given true [] h = tt
rising_given true (r ∷ rows) h = rising_after r rows h
