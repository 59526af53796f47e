-- The starts and ends of ranges: their orders, their equality, and what they feed a hasher.
use Rattle.std.specs.Prelude.{◌≡◌, ℕ, ◌++◌, Option, Some, None, Bool, true, false, ⊤, refl}
use Rattle.std.specs.Hash as fed
use Rattle.std.specs.Ordering.{nat_cmp, on, then_cmp, ordering_then, eq_by_cmp, is_eq}
use Rattle.std.specs.Option.{option_cmp}
use Rattle.std.specs.Cmp.{IsTotalOrder, IsEquivalence, nat_cmp_total, on_total, then_total}
use Rattle.std.specs.Cmp.Lexicographic.{options_total}
use Rattle.std.proofs.Common.{sym, subst, ap}
use Rattle.std.specs.declared.cmp.Ordering.{Ordering}
use Rattle.std.specs.declared.cmp.Ordering.TheVariants.{Less, Equal, Greater}
use Rattle.std.specs.declared.ops.Bound.{Bound}
use Rattle.std.specs.declared.ops.Bound.TheVariants.{Included, Excluded, Unbounded}

module _ {K : Type 0} (R : K → K → Ordering) where
  -- The order of starts. Unbounded is the least start, and at one key Included is less than Excluded.
  abbrev pub start_cmp : (a b : Bound K) → Ordering
  start_cmp Unbounded Unbounded = Equal
  start_cmp Unbounded (Included y) = Less
  start_cmp Unbounded (Excluded y) = Less
  start_cmp (Included x) Unbounded = Greater
  start_cmp (Excluded x) Unbounded = Greater
  start_cmp (Included x) (Included y) = R x y
  start_cmp (Included x) (Excluded y) = ordering_then (R x y) Less
  start_cmp (Excluded x) (Included y) = ordering_then (R x y) Greater
  start_cmp (Excluded x) (Excluded y) = R x y

  -- The order of ends. Unbounded is the greatest end, and at one key Included is greater than Excluded.
  abbrev pub end_cmp : (a b : Bound K) → Ordering
  end_cmp Unbounded Unbounded = Equal
  end_cmp Unbounded (Included y) = Greater
  end_cmp Unbounded (Excluded y) = Greater
  end_cmp (Included x) Unbounded = Less
  end_cmp (Excluded x) Unbounded = Less
  end_cmp (Included x) (Included y) = R x y
  end_cmp (Included x) (Excluded y) = ordering_then (R x y) Greater
  end_cmp (Excluded x) (Included y) = ordering_then (R x y) Less
  end_cmp (Excluded x) (Excluded y) = R x y

-- A cut between keys. (0, None) is below all keys, and (2, None) is above all keys. (1, Some (key, 0)) is
-- just below the key, and (1, Some (key, 1)) is just above it.
abbrev pub Cut : Type 0 → Type 0
Cut K = ℕ × Option (K × ℕ)

-- The order of spots at keys: by key, and at one key by side, where 0 is below the key and 1 is above it.
abbrev pub spot_cmp : {K : Type 0} → (R : K → K → Ordering) (a b : K × ℕ) → Ordering
spot_cmp R = then_cmp (on (λ p. p.0) R) (on (λ p. p.1) nat_cmp)

abbrev pub cut_cmp : {K : Type 0} → (R : K → K → Ordering) (a b : Cut K) → Ordering
cut_cmp R = then_cmp (on (λ c. c.0) nat_cmp) (on (λ c. c.1) (option_cmp (spot_cmp R)))

abbrev pub below : {K : Type 0} → K → Cut K
below key = (1, Some (key, 0))

abbrev pub above : {K : Type 0} → K → Cut K
above key = (1, Some (key, 1))

abbrev pub start_cut : {K : Type 0} → Bound K → Cut K
start_cut Unbounded = (0, None)
start_cut (Included x) = below x
start_cut (Excluded x) = above x

abbrev pub end_cut : {K : Type 0} → Bound K → Cut K
end_cut Unbounded = (2, None)
end_cut (Included x) = above x
end_cut (Excluded x) = below x

pub then_equal : (r : Ordering) → ordering_then r Equal ≡ r
then_equal Less = refl
then_equal Equal = refl
then_equal Greater = refl

pub start_cuts : {K : Type 0} (R : K → K → Ordering) (a b : Bound K)
    → cut_cmp R (start_cut a) (start_cut b) ≡ start_cmp R a b
start_cuts R Unbounded Unbounded = refl
start_cuts R Unbounded (Included y) = refl
start_cuts R Unbounded (Excluded y) = refl
start_cuts R (Included x) Unbounded = refl
start_cuts R (Excluded x) Unbounded = refl
start_cuts R (Included x) (Included y) = then_equal (R x y)
start_cuts R (Included x) (Excluded y) = refl
start_cuts R (Excluded x) (Included y) = refl
start_cuts R (Excluded x) (Excluded y) = then_equal (R x y)

pub end_cuts : {K : Type 0} (R : K → K → Ordering) (a b : Bound K) → cut_cmp R (end_cut a) (end_cut b) ≡ end_cmp R a b
end_cuts R Unbounded Unbounded = refl
end_cuts R Unbounded (Included y) = refl
end_cuts R Unbounded (Excluded y) = refl
end_cuts R (Included x) Unbounded = refl
end_cuts R (Excluded x) Unbounded = refl
end_cuts R (Included x) (Included y) = then_equal (R x y)
end_cuts R (Included x) (Excluded y) = refl
end_cuts R (Excluded x) (Included y) = refl
end_cuts R (Excluded x) (Excluded y) = then_equal (R x y)

spot_total : {K : Type 0} {R : K → K → Ordering} → IsTotalOrder R → IsTotalOrder (spot_cmp R)
spot_total {K} {R} o = then_total {K = K × ℕ} {R = on (λ p. p.0) R} {S = on (λ p. p.1) nat_cmp}
    (on_total {K = K × ℕ} {J = K} (λ p. p.0) o) (on_total {K = K × ℕ} {J = ℕ} (λ p. p.1) nat_cmp_total)

pub cut_total : {K : Type 0} {R : K → K → Ordering} → IsTotalOrder R → IsTotalOrder (cut_cmp R)
cut_total {K} {R} o = then_total {K = Cut K} {R = on (λ c. c.0) nat_cmp}
    {S = on (λ c. c.1) (option_cmp (spot_cmp R))} (on_total {K = Cut K} {J = ℕ} (λ c. c.0) nat_cmp_total)
    (on_total {K = Cut K} {J = Option (K × ℕ)} (λ c. c.1) (options_total (spot_total o)))

pub start_total : {K : Type 0} {R : K → K → Ordering} → IsTotalOrder R → IsTotalOrder (start_cmp R)
start_total {K} {R} o = subst IsTotalOrder (λ i a b. start_cuts R a b i) (on_total start_cut (cut_total o))

pub end_total : {K : Type 0} {R : K → K → Ordering} → IsTotalOrder R → IsTotalOrder (end_cmp R)
end_total {K} {R} o = subst IsTotalOrder (λ i a b. end_cuts R a b i) (on_total end_cut (cut_total o))

-- Two bounds are equal if they are of one kind and their keys, where there are any, are equal.
abbrev pub bound_eq : {K : Type 0} → (E : K → K → Bool) (a b : Bound K) → Bool
bound_eq E Unbounded Unbounded = true
bound_eq E (Included x) (Included y) = E x y
bound_eq E (Excluded x) (Excluded y) = E x y
bound_eq E Unbounded (Included y) = false
bound_eq E Unbounded (Excluded y) = false
bound_eq E (Included x) Unbounded = false
bound_eq E (Included x) (Excluded y) = false
bound_eq E (Excluded x) Unbounded = false
bound_eq E (Excluded x) (Included y) = false

then_less : (r : Ordering) → is_eq (ordering_then r Less) ≡ false
then_less Less = refl
then_less Equal = refl
then_less Greater = refl

then_greater : (r : Ordering) → is_eq (ordering_then r Greater) ≡ false
then_greater Less = refl
then_greater Equal = refl
then_greater Greater = refl

pub start_ties : {K : Type 0} (E : K → K → Bool) (R : K → K → Ordering)
    → ((x y : K) → E x y ≡ eq_by_cmp R x y) → (a b : Bound K) → bound_eq E a b ≡ eq_by_cmp (start_cmp R) a b
start_ties E R t Unbounded Unbounded = refl
start_ties E R t Unbounded (Included y) = refl
start_ties E R t Unbounded (Excluded y) = refl
start_ties E R t (Included x) Unbounded = refl
start_ties E R t (Excluded x) Unbounded = refl
start_ties E R t (Included x) (Included y) = t x y
start_ties E R t (Included x) (Excluded y) = sym (then_less (R x y))
start_ties E R t (Excluded x) (Included y) = sym (then_greater (R x y))
start_ties E R t (Excluded x) (Excluded y) = t x y

pub end_ties : {K : Type 0} (E : K → K → Bool) (R : K → K → Ordering)
    → ((x y : K) → E x y ≡ eq_by_cmp R x y) → (a b : Bound K) → bound_eq E a b ≡ eq_by_cmp (end_cmp R) a b
end_ties E R t Unbounded Unbounded = refl
end_ties E R t Unbounded (Included y) = refl
end_ties E R t Unbounded (Excluded y) = refl
end_ties E R t (Included x) Unbounded = refl
end_ties E R t (Excluded x) Unbounded = refl
end_ties E R t (Included x) (Included y) = t x y
end_ties E R t (Included x) (Excluded y) = sym (then_greater (R x y))
end_ties E R t (Excluded x) (Included y) = sym (then_less (R x y))
end_ties E R t (Excluded x) (Excluded y) = t x y

-- This type has an element for false and none for true, so it shows that false is not true.
abbrev IsFalse : Bool → Type 0
IsFalse true = ⊥
IsFalse false = ⊤

never : {A : Type 0} → false ≡ true → A
never h = absurd (subst IsFalse h tt)

bound_itself : {K : Type 0} {E : K → K → Bool} → IsEquivalence E → (a : Bound K) → bound_eq E a a ≡ true
bound_itself o Unbounded = refl
bound_itself o (Included x) = o.refl x
bound_itself o (Excluded x) = o.refl x

bound_flip : {K : Type 0} {E : K → K → Bool} → ((x y : K) → E x y ≡ E y x) → (a b : Bound K)
    → bound_eq E a b ≡ bound_eq E b a
bound_flip s Unbounded Unbounded = refl
bound_flip s Unbounded (Included y) = refl
bound_flip s Unbounded (Excluded y) = refl
bound_flip s (Included x) Unbounded = refl
bound_flip s (Excluded x) Unbounded = refl
bound_flip s (Included x) (Included y) = s x y
bound_flip s (Included x) (Excluded y) = refl
bound_flip s (Excluded x) (Included y) = refl
bound_flip s (Excluded x) (Excluded y) = s x y

bound_alike : {K : Type 0} {E : K → K → Bool} → ((x y z : K) → E x y ≡ true → E x z ≡ E y z)
    → (a b c : Bound K) → bound_eq E a b ≡ true → bound_eq E a c ≡ bound_eq E b c
bound_alike s Unbounded Unbounded c h = refl
bound_alike s Unbounded (Included y) c h = never h
bound_alike s Unbounded (Excluded y) c h = never h
bound_alike s (Included x) Unbounded c h = never h
bound_alike s (Excluded x) Unbounded c h = never h
bound_alike s (Included x) (Excluded y) c h = never h
bound_alike s (Excluded x) (Included y) c h = never h
bound_alike s (Included x) (Included y) Unbounded h = refl
bound_alike s (Included x) (Included y) (Included z) h = s x y z h
bound_alike s (Included x) (Included y) (Excluded z) h = refl
bound_alike s (Excluded x) (Excluded y) Unbounded h = refl
bound_alike s (Excluded x) (Excluded y) (Included z) h = refl
bound_alike s (Excluded x) (Excluded y) (Excluded z) h = s x y z h

pub bound_equiv : {K : Type 0} {E : K → K → Bool} → IsEquivalence E → IsEquivalence (bound_eq E)
bound_equiv o = record { refl = bound_itself o; symm = bound_flip o.symm; congr = bound_alike o.congr }

-- What a bound feeds a hasher: one byte for its kind, and then what its key feeds, where it has one.
abbrev pub bound_input : {K : Type 0} → (K → fed.HashWrites) → Bound K → fed.HashWrites
bound_input f Unbounded = fed.u8 0
bound_input f (Included x) = fed.u8 1 ++ f x
bound_input f (Excluded x) = fed.u8 2 ++ f x

pub bound_alike_input : {K : Type 0} (E : K → K → Bool) (f : K → fed.HashWrites)
    → ((x y : K) → E x y ≡ true → f x ≡ f y) → (a b : Bound K) → bound_eq E a b ≡ true
    → bound_input f a ≡ bound_input f b
bound_alike_input E f h Unbounded Unbounded e = refl
bound_alike_input E f h Unbounded (Included y) e = never e
bound_alike_input E f h Unbounded (Excluded y) e = never e
bound_alike_input E f h (Included x) Unbounded e = never e
bound_alike_input E f h (Excluded x) Unbounded e = never e
bound_alike_input E f h (Included x) (Excluded y) e = never e
bound_alike_input E f h (Excluded x) (Included y) e = never e
bound_alike_input E f h (Included x) (Included y) e = ap (λ w. fed.u8 1 ++ w) (h x y e)
bound_alike_input E f h (Excluded x) (Excluded y) e = ap (λ w. fed.u8 2 ++ w) (h x y e)
