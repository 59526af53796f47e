-- There is only one way to sort a list if tied elements keep their order.
use Rattle.std.proofs.Common.{◌≡◌, refl, sym, ◌∙◌, ap, subst, ℕ, suc, ◌+◌, cond, Bool, true, false, not, ◌&&◌, List, [], ◌∷◌, arith}
use Rattle.std.specs.Prelude.{filter, ⊤}
use Rattle.std.specs.List.{AllByRecursion}
use Rattle.std.specs.List.Sorted.{ties, IsSortedBy, IsStableBy}
use Rattle.std.specs.Cmp.{IsStrictWeakOrder}
use Rattle.std.specs.Ordering.{is_lt}
use Rattle.std.proofs.Math.ListN.{get_or}
use Rattle.std.proofs.lemmas.Cmp.{nat_list_cmp_total}
use Rattle.std.proofs.lemmas.List.Elements.{All-from_get_or, recursion_from_All}
use Rattle.std.proofs.lemmas.List.MinMax.{ranks_by}
use Rattle.std.proofs.lemmas.List.Sorted.{sorted_far}
use Rattle.row_laws.proofs.Elements.{all_weaken}
use Rattle.row_model.specs.Rows.{key_cmp}
use Rattle.row_model.specs.Written.Plan.{put_anchor, anchors_by_key}
use Rattle.fleet_plan.specs.declared.anchor.Anchor.{Anchor}
use Rattle.fleet_plan.specs.Anchors.{anchor_of, anchors_of}

module _ {X : Type 0} (lt : X → X → Bool) (order : IsStrictWeakOrder lt) where
  abbrev NoneBelow : X → List X → Type 0
  NoneBelow x ys = AllByRecursion (λ y. lt y x ≡ false) ys

  abbrev Rises : List X → Type 0
  Rises [] = ⊤
  Rises (x ∷ xs) = NoneBelow x xs × Rises xs

  irreflexive : (x : X) → lt x x ≡ false
  irreflexive x = by (lt x x) refl
    where
      by : (b : Bool) → lt x x ≡ b → lt x x ≡ false
      by true e = order.one_way x x e
      by false e = e

  tie : (x y : X) → lt x y ≡ false → lt y x ≡ false → ties lt x y ≡ true
  tie x y h g = ap (λ b. not b && not (lt y x)) h ∙ ap not g

  tie_self : (x : X) → ties lt x x ≡ true
  tie_self x = tie x x (irreflexive x) (irreflexive x)

  -- If all elements have a property, the first element that passes a test has it.
  found : (P : X → Type 0) (p : X → Bool) (ys : List X) (z : X) (rest : List X) → filter p ys ≡ z ∷ rest → AllByRecursion P ys → P z
  found P p [] z rest e all = absurd (cc e)
  found P p (y ∷ ys) z rest e all = by (p y) e (λ h. found P p ys z rest h all.1)
    where
      by : (b : Bool) → cond b (y ∷ filter p ys) (filter p ys) ≡ z ∷ rest → (filter p ys ≡ z ∷ rest → P z) → P z
      by true same later =
          let first : y ≡ z = cc same in
          subst P first all.0
      by false same later = later same

  kept : (p : X → Bool) (y : X) (ys : List X) → p y ≡ true → filter p (y ∷ ys) ≡ y ∷ filter p ys
  kept p y ys h = ap (λ b. cond b (y ∷ filter p ys) (filter p ys)) h

  tail_same : (b : Bool) (y : X) (xs ys : List X) → cond b (y ∷ xs) xs ≡ cond b (y ∷ ys) ys → xs ≡ ys
  tail_same true y xs ys e = cc e
  tail_same false y xs ys e = e

  -- Two rising lists are equal if their tied elements are the same ones in the same order.
  pub one_sorting : (ys zs : List X) → Rises ys → Rises zs → ((x : X) → filter (ties lt x) ys ≡ filter (ties lt x) zs) → ys ≡ zs
  one_sorting [] [] up up' same = refl
  one_sorting [] (z ∷ zs) up up' same =
      let clash : [] ≡ z ∷ filter (ties lt z) zs = same z ∙ kept (ties lt z) z zs (tie_self z) in
      absurd (cc clash)
  one_sorting (y ∷ ys) [] up up' same =
      let clash : [] ≡ y ∷ filter (ties lt y) ys = sym (same y) ∙ kept (ties lt y) y ys (tie_self y) in
      absurd (cc clash)
  one_sorting (y ∷ ys) (z ∷ zs) up up' same =
      let not_below : lt z y ≡ false = found (λ w. lt w y ≡ false) (ties lt z) (y ∷ ys) z (filter (ties lt z) zs) (same z ∙ kept (ties lt z) z zs (tie_self z)) (irreflexive y, up.0) in
      let not_above : lt y z ≡ false = found (λ w. lt w z ≡ false) (ties lt y) (z ∷ zs) y (filter (ties lt y) ys) (sym (same y) ∙ kept (ties lt y) y ys (tie_self y)) (irreflexive z, up'.0) in
      let firsts : y ∷ filter (ties lt y) ys ≡ z ∷ filter (ties lt y) zs = sym (kept (ties lt y) y ys (tie_self y)) ∙ same y ∙ kept (ties lt y) z zs (tie y z not_above not_below) in
      let first : z ≡ y = cc firsts in
      let rest = one_sorting ys zs up.1 up'.1 (λ x. tail_same (ties lt x y) y (filter (ties lt x) ys) (filter (ties lt x) zs) (same x ∙ ap (λ w. filter (ties lt x) (w ∷ zs)) first)) in
      ap (λ w. w ∷ ys) (sym first) ∙ ap (λ ws. z ∷ ws) rest

  -- A sorted list rises. The sort says so by places, and this says so by recursion.
  pub rises_of : (xs : List X) → IsSortedBy lt xs → Rises xs
  rises_of [] up = tt
  rises_of (x ∷ xs) up =
      let far = sorted_far lt order (x ∷ xs) up in (
        recursion_from_All (λ y. lt y x ≡ false) xs (All-from_get_or (λ y. lt y x ≡ false) xs x (λ i low. far 0 (suc i) x (omega arith) (omega arith))),
        rises_of xs (λ k d low high. next k d ∙ up (suc k) d (omega arith) (omega arith)),
      )
    where
      next : (k : ℕ) (d : X) → lt (get_or xs (k + 1) d) (get_or xs k d) ≡ lt (get_or (x ∷ xs) (suc k + 1) d) (get_or xs k d)
      next k d =
          let at : suc (k + 1) ≡ suc k + 1 = omega arith in
          ap (λ n. lt (get_or (x ∷ xs) n d) (get_or xs k d)) at

  -- ---- a list sorted element by element

  abbrev pub put : X → List X → List X
  put x [] = x ∷ []
  put x (y ∷ ys) = cond (lt y x) (y ∷ put x ys) (x ∷ y ∷ ys)

  abbrev pub sorted : List X → List X
  sorted [] = []
  sorted (x ∷ xs) = put x (sorted xs)

  pub put_all : (P : X → Type 0) (x : X) (ys : List X) → P x → AllByRecursion P ys → AllByRecursion P (put x ys)
  put_all P x [] h all = (h, tt)
  put_all P x (y ∷ ys) h all = by (lt y x) (put_all P x ys h all.1)
    where
      by : (b : Bool) → AllByRecursion P (put x ys) → AllByRecursion P (cond b (y ∷ put x ys) (x ∷ y ∷ ys))
      by true rest = (all.0, rest)
      by false rest = (h, all)

  put_rises : (x : X) (ys : List X) → Rises ys → Rises (put x ys)
  put_rises x [] up = (tt, tt)
  put_rises x (y ∷ ys) up = by (lt y x) refl (put_rises x ys up.1)
    where
      by : (b : Bool) → lt y x ≡ b → Rises (put x ys) → Rises (cond b (y ∷ put x ys) (x ∷ y ∷ ys))
      by true e rest = (put_all (λ w. lt w y ≡ false) x ys (order.one_way y x e) up.0, rest)
      by false e rest = ((e, all_weaken (λ w. lt w y ≡ false) (λ w. lt w x ≡ false) (λ w h. order.chain w y x h e) ys up.0), up)

  pub sorted_rises : (xs : List X) → Rises (sorted xs)
  sorted_rises [] = tt
  sorted_rises (x ∷ xs) = put_rises x (sorted xs) (sorted_rises xs)

  -- If one element is below another, a third does not tie with both.
  not_both : (x y w : X) → lt y x ≡ true → ties lt w x ≡ true → ties lt w y ≡ true → ⊥
  not_both x y w below with_x with_y =
      let low : lt y w ≡ false = second (lt w y) (lt y w) with_y in
      let high : lt w x ≡ false = first (lt w x) (lt x w) with_x in
      let clash : true ≡ false = sym below ∙ order.chain y w x low high in
      absurd (cc clash)
    where
      first : (a b : Bool) → (not a && not b) ≡ true → a ≡ false
      first true b h = absurd (cc h)
      first false b h = refl

      second : (a b : Bool) → (not a && not b) ≡ true → b ≡ false
      second true b h = absurd (cc h)
      second false true h = absurd (cc h)
      second false false h = refl

  -- An element that is put into a list stands before the elements that are tied with it.
  put_keeps : (w x : X) (ys : List X) → filter (ties lt w) (put x ys) ≡ filter (ties lt w) (x ∷ ys)
  put_keeps w x [] = refl
  put_keeps w x (y ∷ ys) = by (lt y x) refl (put_keeps w x ys)
    where
      swap : (s t : Bool) → ties lt w x ≡ s → ties lt w y ≡ t → lt y x ≡ true → (rest : List X)
          → cond t (y ∷ cond s (x ∷ rest) rest) (cond s (x ∷ rest) rest) ≡ cond s (x ∷ cond t (y ∷ rest) rest) (cond t (y ∷ rest) rest)
      swap true true e f below rest = absurd (not_both x y w below e f)
      swap true false e f below rest = refl
      swap false t e f below rest = refl

      by : (b : Bool) → lt y x ≡ b → filter (ties lt w) (put x ys) ≡ filter (ties lt w) (x ∷ ys)
          → filter (ties lt w) (cond b (y ∷ put x ys) (x ∷ y ∷ ys)) ≡ filter (ties lt w) (x ∷ y ∷ ys)
      by true e same =
          ap (λ rest. cond (ties lt w y) (y ∷ rest) rest) same
          ∙ swap (ties lt w x) (ties lt w y) refl refl e (filter (ties lt w) ys)
      by false e same = refl

  pub sorted_keeps : (w : X) (xs : List X) → filter (ties lt w) (sorted xs) ≡ filter (ties lt w) xs
  sorted_keeps w [] = refl
  sorted_keeps w (x ∷ xs) = put_keeps w x (sorted xs) ∙ ap (λ rest. cond (ties lt w x) (x ∷ rest) rest) (sorted_keeps w xs)

  -- A stable sort gives the list `sorted`.
  pub sorting_is : (xs ys : List X) → IsSortedBy lt ys → IsStableBy lt xs ys → ys ≡ sorted xs
  sorting_is xs ys up stable = one_sorting ys (sorted xs) (rises_of ys up) (sorted_rises xs) (λ w. stable w ∙ sym (sorted_keeps w xs))

-- ---- anchors in order of their keys

abbrev pub is_below : Anchor → Anchor → Bool
is_below a b = is_lt (key_cmp a.key b.key)

pub ranks : IsStrictWeakOrder is_below
ranks = ranks_by nat_list_cmp_total (λ a. a.key)

put-mapped : (a : Anchor) (bs : List Anchor) → anchors_of (put is_below ranks a bs) ≡ put_anchor (anchor_of a) (anchors_of bs)
put-mapped a [] = refl
put-mapped a (b ∷ bs) = by (is_below b a) (put-mapped a bs)
  where
    by : (t : Bool) → anchors_of (put is_below ranks a bs) ≡ put_anchor (anchor_of a) (anchors_of bs)
        → anchors_of (cond t (b ∷ put is_below ranks a bs) (a ∷ b ∷ bs)) ≡ cond t (anchor_of b ∷ put_anchor (anchor_of a) (anchors_of bs)) (anchor_of a ∷ anchors_of (b ∷ bs))
    by true rest = ap (λ later. anchor_of b ∷ later) rest
    by false rest = refl

sorted-mapped : (xs : List Anchor) → anchors_of (sorted is_below ranks xs) ≡ anchors_by_key (anchors_of xs)
sorted-mapped [] = refl
sorted-mapped (a ∷ xs) = put-mapped a (sorted is_below ranks xs) ∙ ap (put_anchor (anchor_of a)) (sorted-mapped xs)

pub by_key_is : (xs ys : List Anchor) → IsSortedBy is_below ys → IsStableBy is_below xs ys → anchors_of ys ≡ anchors_by_key (anchors_of xs)
by_key_is xs ys up stable = ap anchors_of (sorting_is is_below ranks xs ys up stable) ∙ sorted-mapped xs
