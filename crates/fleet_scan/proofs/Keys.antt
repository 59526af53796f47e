-- The keys of rows, in whatever order the rows are.
use Rattle.std.proofs.Common.{◌≡◌, refl, sym, ◌∙◌, ap, ℕ, List, [], ◌∷◌, ◌++◌, cond, Bool, true, false}
use Rattle.std.specs.Prelude.{bytes_eq}
use Rattle.std.specs.List.{AllByRecursion}
use Rattle.std.specs.List.Sorted.{IsStrictlySortedBy}
use Rattle.std.specs.declared.cmp.Ordering.{Ordering}
use Rattle.std.specs.declared.cmp.Ordering.TheVariants.{Less, Equal, Greater}
use Rattle.std.specs.Ordering.{is_lt, ordering_then, ordering_reverse, nat_cmp}
use Rattle.std.proofs.lemmas.Cmp.{nat_list_cmp_total}
use Rattle.std.proofs.lemmas.Slice.Eq.{bytes_eq-Decides}
use Rattle.row_model.specs.Rows.{Row, key_cmp, row_cmp, insert_row, sorted_rows, IsStrictlyOrdered}
use Rattle.row_model.specs.Scans.{with_key, put_key, keys_of}
use Rattle.row_laws.proofs.KeyRows.{key_alike, exact, Keys, IsThat}
use Rattle.row_laws.proofs.Elements.{all_back}
use Rattle.fleet_scan.specs.Answers.{BeginsApart}

reversed : (a b : List ℕ) (o : Ordering) → key_cmp a b ≡ o → key_cmp b a ≡ ordering_reverse o
reversed a b o is = nat_list_cmp_total.antisymm b a ∙ ap ordering_reverse is

-- ---- keys may be put in any order

module _ (a b : List ℕ) where
  -- Two keys before all others go in front in their own order, whichever is put first.
  both_first : (k : List ℕ) (ks : List (List ℕ)) → key_cmp a k ≡ Less → key_cmp b k ≡ Less
      → with_key (key_cmp a b) a b (k ∷ ks) (put_key a (k ∷ ks)) ≡ with_key (key_cmp b a) b a (k ∷ ks) (put_key b (k ∷ ks))
  both_first k ks low_a low_b = by (key_cmp a b) refl
    where
      put_a : put_key a (k ∷ ks) ≡ a ∷ k ∷ ks
      put_a = ap (λ o. with_key o a k ks (put_key a ks)) low_a

      put_b : put_key b (k ∷ ks) ≡ b ∷ k ∷ ks
      put_b = ap (λ o. with_key o b k ks (put_key b ks)) low_b

      by : (o : Ordering) → key_cmp a b ≡ o → with_key o a b (k ∷ ks) (put_key a (k ∷ ks)) ≡ with_key (key_cmp b a) b a (k ∷ ks) (put_key b (k ∷ ks))
      by Less is =
          sym (ap (λ o. with_key o b a (k ∷ ks) (put_key b (k ∷ ks))) (reversed a b Less is) ∙ ap (λ ks. a ∷ ks) put_b)
      by Equal is =
          ap (λ x. x ∷ k ∷ ks) (sym (exact a b is)) ∙ sym (ap (λ o. with_key o b a (k ∷ ks) (put_key b (k ∷ ks))) (reversed a b Equal is))
      by Greater is =
          ap (λ ks. b ∷ ks) put_a ∙ sym (ap (λ o. with_key o b a (k ∷ ks) (put_key b (k ∷ ks))) (reversed a b Greater is))

  swap_alone : with_key (key_cmp a b) a b [] (a ∷ []) ≡ with_key (key_cmp b a) b a [] (b ∷ [])
  swap_alone = by (key_cmp a b) refl
    where
      by : (o : Ordering) → key_cmp a b ≡ o → with_key o a b [] (a ∷ []) ≡ with_key (key_cmp b a) b a [] (b ∷ [])
      by Less is = sym (ap (λ o. with_key o b a [] (b ∷ [])) (reversed a b Less is))
      by Equal is = ap (λ x. x ∷ []) (sym (exact a b is)) ∙ sym (ap (λ o. with_key o b a [] (b ∷ [])) (reversed a b Equal is))
      by Greater is = sym (ap (λ o. with_key o b a [] (b ∷ [])) (reversed a b Greater is))

-- Two keys may be put in either order.
swap_keys : (a b : List ℕ) (ks : List (List ℕ)) → put_key a (put_key b ks) ≡ put_key b (put_key a ks)
swap_keys a b [] = swap_alone a b
swap_keys a b (k ∷ ks) = by (key_cmp a k) refl (key_cmp b k) refl (swap_keys a b ks)
  where
    above : (x y : List ℕ) (o : Ordering) → key_cmp x k ≡ Less → key_cmp y k ≡ o → ordering_reverse o ≡ Less → key_cmp y x ≡ Greater
    above x y o low is back =
        let high : key_cmp k y ≡ Less = reversed y k o is ∙ back in
        reversed x y Less (nat_list_cmp_total.trans x k y low high)

    at : (x y : List ℕ) → key_cmp x k ≡ Less → key_cmp y k ≡ Equal → key_cmp y x ≡ Greater
    at x y low is = ap (λ z. key_cmp z x) (exact y k is) ∙ reversed x k Less low

    by : (o : Ordering) → key_cmp a k ≡ o → (p : Ordering) → key_cmp b k ≡ p → put_key a (put_key b ks) ≡ put_key b (put_key a ks)
        → put_key a (with_key p b k ks (put_key b ks)) ≡ put_key b (with_key o a k ks (put_key a ks))
    by Less is Less js rest = both_first a b k ks is js
    by Less is Equal js rest =
        ap (λ o. with_key o a k ks (put_key a ks)) is
        ∙ sym (ap (λ o. with_key o b a (k ∷ ks) (put_key b (k ∷ ks))) (at a b is js) ∙ ap (λ o. a ∷ with_key o b k ks (put_key b ks)) js)
    by Less is Greater js rest =
        ap (λ o. with_key o a k (put_key b ks) (put_key a (put_key b ks))) is
        ∙ sym (ap (λ o. with_key o b a (k ∷ ks) (put_key b (k ∷ ks))) (above a b Greater is js refl) ∙ ap (λ o. a ∷ with_key o b k ks (put_key b ks)) js)
    by Equal is Less js rest =
        ap (λ o. with_key o a b (k ∷ ks) (put_key a (k ∷ ks))) (at b a js is)
        ∙ ap (λ o. b ∷ with_key o a k ks (put_key a ks)) is
        ∙ sym (ap (λ o. with_key o b k ks (put_key b ks)) js)
    by Equal is Equal js rest = ap (λ o. with_key o a k ks (put_key a ks)) is ∙ sym (ap (λ o. with_key o b k ks (put_key b ks)) js)
    by Equal is Greater js rest = ap (λ o. with_key o a k (put_key b ks) (put_key a (put_key b ks))) is ∙ sym (ap (λ o. with_key o b k ks (put_key b ks)) js)
    by Greater is Less js rest =
        ap (λ o. with_key o a b (k ∷ ks) (put_key a (k ∷ ks))) (above b a Greater js is refl)
        ∙ ap (λ o. b ∷ with_key o a k ks (put_key a ks)) is
        ∙ sym (ap (λ o. with_key o b k (put_key a ks) (put_key b (put_key a ks))) js)
    by Greater is Equal js rest = ap (λ o. with_key o a k ks (put_key a ks)) is ∙ sym (ap (λ o. with_key o b k (put_key a ks) (put_key b (put_key a ks))) js)
    by Greater is Greater js rest =
        ap (λ o. with_key o a k (put_key b ks) (put_key a (put_key b ks))) is
        ∙ ap (λ ks. k ∷ ks) rest
        ∙ sym (ap (λ o. with_key o b k (put_key a ks) (put_key b (put_key a ks))) js)

keys-insert : (r : Row) (rows : List Row) → keys_of (insert_row r rows) ≡ put_key r.key (keys_of rows)
keys-insert r [] = refl
keys-insert r (q ∷ rows) = by (is_lt (row_cmp r q)) (keys-insert r rows)
  where
    by : (b : Bool) → keys_of (insert_row r rows) ≡ put_key r.key (keys_of rows) → keys_of (cond b (r ∷ q ∷ rows) (q ∷ insert_row r rows)) ≡ put_key r.key (put_key q.key (keys_of rows))
    by true rest = refl
    by false rest = ap (put_key q.key) rest ∙ swap_keys q.key r.key (keys_of rows)

-- Sorted rows have the keys of the unsorted ones.
pub keys-sorted_rows : (rows : List Row) → keys_of (sorted_rows rows) ≡ keys_of rows
keys-sorted_rows [] = refl
keys-sorted_rows (r ∷ rows) = keys-insert r (sorted_rows rows) ∙ ap (put_key r.key) (keys-sorted_rows rows)

-- ---- what holds of all keys

all_put : (P : List ℕ → Type 0) (key : List ℕ) (ks : List (List ℕ)) → P key → AllByRecursion P ks → AllByRecursion P (put_key key ks)
all_put P key [] h hs = (h, tt)
all_put P key (k ∷ ks) h hs = by (key_cmp key k) (all_put P key ks h hs.1)
  where
    by : (o : Ordering) → AllByRecursion P (put_key key ks) → AllByRecursion P (with_key o key k ks (put_key key ks))
    by Less rest = (h, hs)
    by Equal rest = hs
    by Greater rest = (hs.0, rest)

-- What holds of the keys of all rows holds of the keys themselves.
pub all_keys : (P : List ℕ → Type 0) (rows : List Row) → Keys P rows → AllByRecursion P (keys_of rows)
all_keys P [] h = tt
all_keys P (r ∷ rows) h = all_put P r.key (keys_of rows) h.0 (all_keys P rows h.1)

-- ---- the keys of ordered rows

abbrev pub Above : List ℕ → List Row → Type 0
Above key rows = Keys (λ k. key_cmp key k ≡ Less) rows

put_above : (key : List ℕ) (ks : List (List ℕ)) → AllByRecursion (λ k. key_cmp key k ≡ Less) ks → put_key key ks ≡ key ∷ ks
put_above key [] h = refl
put_above key (k ∷ ks) h = ap (λ o. with_key o key k ks (put_key key ks)) h.0

put_again : (key : List ℕ) (ks : List (List ℕ)) → put_key key (key ∷ ks) ≡ key ∷ ks
put_again key ks = ap (λ o. with_key o key key ks (put_key key ks)) (key_alike key)

-- The rows of a key give that key, and the rows after them the other keys.
pub keys-first : (key : List ℕ) (here rest : List Row) → Keys (IsThat key) here → Above key rest → put_key key (keys_of (here ++ rest)) ≡ key ∷ keys_of rest
keys-first key [] rest h above = put_above key (keys_of rest) (all_keys (λ k. key_cmp key k ≡ Less) rest above)
keys-first key (q ∷ here) rest h above =
    ap (λ k. put_key key (put_key k (keys_of (here ++ rest)))) (sym ((bytes_eq-Decides key q.key).0 h.0))
    ∙ ap (put_key key) (keys-first key here rest h.1 above)
    ∙ put_again key (keys_of rest)

-- A key is below each other key that is not before it in order.
below : (key k : List ℕ) (seq other : ℕ) → ordering_then (key_cmp key k) (nat_cmp seq other) ≡ Less → bytes_eq key k ≡ false → key_cmp key k ≡ Less
below key k seq other before apart = by (key_cmp key k) refl before
  where
    by : (o : Ordering) → key_cmp key k ≡ o → ordering_then o (nat_cmp seq other) ≡ Less → key_cmp key k ≡ Less
    by Less is h = is
    by Equal is h = let same = (bytes_eq-Decides key k).1 (exact key k is) in absurd (cc (same, apart))
    by Greater is h = absurd (cc h)

above_later : (key : List ℕ) (q : Row) (rows : List Row) → key_cmp key q.key ≡ Less → AllByRecursion (λ x. row_cmp q x ≡ Less) rows → Above key rows
above_later key q [] low h = tt
above_later key q (x ∷ rows) low h = (by (key_cmp q.key x.key) refl h.0, above_later key q rows low h.1)
  where
    by : (o : Ordering) → key_cmp q.key x.key ≡ o → ordering_then o (nat_cmp x.seq q.seq) ≡ Less → key_cmp key x.key ≡ Less
    by Less is h = nat_list_cmp_total.trans key q.key x.key low is
    by Equal is h = ap (key_cmp key) (sym (exact q.key x.key is)) ∙ low
    by Greater is h = absurd (cc h)

pub ordered_back : (xs ys : List Row) → IsStrictlyOrdered (xs ++ ys) → IsStrictlyOrdered ys
unfolding IsStrictlySortedBy
ordered_back [] ys h = h
ordered_back (x ∷ xs) ys h = ordered_back xs ys h.1

-- In ordered rows, the rows after those of a key have greater keys.
pub rest_is_above : (r : Row) (here rest : List Row) → IsStrictlyOrdered (r ∷ (here ++ rest)) → BeginsApart r.key rest → Above r.key rest
unfolding IsStrictlySortedBy
rest_is_above r here [] ordered apart = tt
rest_is_above r here (q ∷ rest) ordered apart =
    let after = all_back (λ x. row_cmp r x ≡ Less) here (q ∷ rest) ordered.0 in
    let low = below r.key q.key q.seq r.seq after.0 apart in
    (low, above_later r.key q rest low (ordered_back here (q ∷ rest) ordered.1).0)
