-- Ids in rising order.
use Rattle.std.proofs.Common.{◌≡◌, refl, sym, ◌∙◌, ap, ℕ, cond, Bool, true, false, List, [], ◌∷◌, arith}
use Rattle.std.specs.Prelude.{nat_lt, ◌==◌, ⊤}
use Rattle.std.specs.List.{AllByRecursion}
use Rattle.std.specs.List.Sorted.{IsSortedBy, IsStableBy}
use Rattle.std.specs.Cmp.{IsStrictWeakOrder}
use Rattle.std.specs.Ordering.{is_lt, nat_cmp}
use Rattle.std.specs.declared.cmp.Ordering.TheVariants.{Less, Equal, Greater}
use Rattle.std.proofs.lemmas.Bool.{ltb-true, ltb-false, le-ltb}
use Rattle.std.proofs.lemmas.Cmp.{nat_cmp_total}
use Rattle.std.proofs.lemmas.List.MinMax.{ranks_by}
use Rattle.row_laws.proofs.Elements.{all_weaken}
use Rattle.fleet_model.specs.Jobs.{in_id_order, put_id}
use Rattle.fleet_plan.proofs.Sorting.{put, sorted, sorting_is}

abbrev pub is_below : ℕ → ℕ → Bool
is_below a b = is_lt (nat_cmp a b)

pub ranks : IsStrictWeakOrder is_below
ranks = ranks_by nat_cmp_total (λ id. id)

below_is : (a b : ℕ) → is_below a b ≡ nat_lt a b
below_is a b = by (nat_lt a b) (a == b)
  where
    by : (less same : Bool) → is_lt (cond less Less (cond same Equal Greater)) ≡ less
    by true same = refl
    by false true = refl
    by false false = refl

-- No id of the list is below this one.
abbrev AtLeast : ℕ → List ℕ → Type 0
AtLeast x ys = AllByRecursion (λ y. nat_lt y x ≡ false) ys

abbrev Rise : List ℕ → Type 0
Rise [] = ⊤
Rise (x ∷ xs) = AtLeast x xs × Rise xs

put_at_least : (least x : ℕ) (ys : List ℕ) → nat_lt x least ≡ false → AtLeast least ys → AtLeast least (put_id x ys)
put_at_least least x [] high all = (high, tt)
put_at_least least x (y ∷ ys) high all = by (nat_lt x y) (put_at_least least x ys high all.1)
  where
    by : (b : Bool) → AtLeast least (put_id x ys) → AtLeast least (cond b (x ∷ y ∷ ys) (y ∷ put_id x ys))
    by true rest = (high, all)
    by false rest = (all.0, rest)

above : (x y z : ℕ) → nat_lt x y ≡ true → nat_lt z y ≡ false → nat_lt z x ≡ false
above x y z below high = le-ltb z x (omega (arith, ltb-true x y below, ltb-false z y high))

not_below : (x y : ℕ) → nat_lt x y ≡ true → nat_lt y x ≡ false
not_below x y below = le-ltb y x (omega (arith, ltb-true x y below))

put_rises : (x : ℕ) (ys : List ℕ) → Rise ys → Rise (put_id x ys)
put_rises x [] up = (tt, tt)
put_rises x (y ∷ ys) up = by (nat_lt x y) refl (put_rises x ys up.1)
  where
    by : (b : Bool) → nat_lt x y ≡ b → Rise (put_id x ys) → Rise (cond b (x ∷ y ∷ ys) (y ∷ put_id x ys))
    by true e rest = ((not_below x y e, all_weaken (λ z. nat_lt z y ≡ false) (λ z. nat_lt z x ≡ false) (λ z high. above x y z e high) ys up.0), up)
    by false e rest = (put_at_least y x ys e up.0, rest)

ordered_rises : (xs : List ℕ) → Rise (in_id_order xs)
ordered_rises [] = tt
ordered_rises (x ∷ xs) = put_rises x (in_id_order xs) (ordered_rises xs)

-- An id goes to the front of a list that has none below it. If the list begins with the same id, this makes no difference.
front : (x : ℕ) (ys : List ℕ) → AtLeast x ys → put_id x ys ≡ x ∷ ys
front x [] all = refl
front x (y ∷ ys) all = by (nat_lt x y) refl (front x ys all.1)
  where
    by : (b : Bool) → nat_lt x y ≡ b → put_id x ys ≡ x ∷ ys → cond b (x ∷ y ∷ ys) (y ∷ put_id x ys) ≡ x ∷ y ∷ ys
    by true e rest = refl
    by false e rest =
        let same : y ≡ x = omega (arith, ltb-false x y e, ltb-false y x all.0) in
        ap (λ ids. y ∷ ids) rest ∙ (ap (λ id. id ∷ x ∷ ys) same ∙ ap (λ id. x ∷ id ∷ ys) (sym same))

put_same : (x : ℕ) (ys : List ℕ) → Rise ys → put is_below ranks x ys ≡ put_id x ys
put_same x [] up = refl
put_same x (y ∷ ys) up = by (is_below y x) (sym (below_is y x)) (put_same x ys up.1)
  where
    by : (b : Bool) → nat_lt y x ≡ b → put is_below ranks x ys ≡ put_id x ys → cond b (y ∷ put is_below ranks x ys) (x ∷ y ∷ ys) ≡ put_id x (y ∷ ys)
    by true e rest = ap (λ ids. y ∷ ids) rest ∙ sym (ap (λ b. cond b (x ∷ y ∷ ys) (y ∷ put_id x ys)) (not_below y x e))
    by false e rest = sym (front x (y ∷ ys) (e, all_weaken (λ z. nat_lt z y ≡ false) (λ z. nat_lt z x ≡ false) (λ z high. le-ltb z x (omega (arith, ltb-false y x e, ltb-false z y high))) ys up.0))

sorted_is : (xs : List ℕ) → sorted is_below ranks xs ≡ in_id_order xs
sorted_is [] = refl
sorted_is (x ∷ xs) = ap (put is_below ranks x) (sorted_is xs) ∙ put_same x (in_id_order xs) (ordered_rises xs)

-- A sort by rising ids gives `in_id_order`.
pub ordered_is : (ids made : List ℕ) → IsSortedBy is_below made → IsStableBy is_below ids made → made ≡ in_id_order ids
ordered_is ids made up stable = sorting_is is_below ranks ids made up stable ∙ sorted_is ids
