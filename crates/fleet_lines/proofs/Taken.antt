-- Taking the element with a number from a list, and putting it back.
use Rattle.std.proofs.Common.{◌≡◌, ◌≢◌, refl, sym, ◌∙◌, ap, subst, ℕ, zero, suc, ◌+◌, ◌<◌, ◌≤◌, List, [], ◌∷◌, cond, Bool, true, false, inl, inr, ◌⊎◌, Some, None, length, arith}
use Rattle.std.specs.Prelude.{◌==◌, not, filter, find, nat_le, nat_lt, slice_index_or}
use Rattle.std.specs.List.{AllByRecursion, position, prefix_len, remove}
use Rattle.std.proofs.lemmas.Bool.Decides.{Decides-eqb, Decides-ltb, leb_tells}
use Rattle.row_model.specs.Lists.{Pairs}
use Rattle.fleet_lines.specs.Lists.{IsTaken}

module _ {A : Type 0} (number : A → ℕ) (n : ℕ) where
  abbrev is_it : A → Bool
  is_it x = n == number x

  abbrev without : List A → List A
  without xs = filter (λ x. not (n == number x)) xs

  -- All elements with other numbers are left.
  all_left : (xs : List A) → AllByRecursion (λ (y : A). n ≢ number y) xs → without xs ≡ xs
  all_left [] differ = refl
  all_left (x ∷ xs) differ = by (n == number x) refl (all_left xs differ.1)
    where
      by : (b : Bool) → (n == number x) ≡ b → without xs ≡ xs → cond (not b) (x ∷ without xs) (without xs) ≡ x ∷ xs
      by true e rest = absurd (differ.0 ((Decides-eqb n (number x)).0 e))
      by false e rest = ap (λ (ys : List A). x ∷ ys) rest

  -- The element at the first place with the number is found, and the others are left.
  taken_at : (xs : List A) (k : ℕ) (w : A) → k ≡ prefix_len (λ y. not (is_it y)) xs → k < length xs → Pairs (λ (y z : A). number y ≢ number z) xs → (find is_it xs ≡ Some (slice_index_or xs k w)) × (remove xs k ≡ without xs)
  taken_at [] k w is low pairs = absurd (omega (arith, low))
  taken_at (x ∷ xs) k w is low pairs = by (n == number x) refl k is low (λ j is low. taken_at xs j w is low pairs.1)
    where
      differ : n ≡ number x → AllByRecursion (λ (y : A). n ≢ number y) xs
      differ same = subst (λ (m : ℕ). AllByRecursion (λ (y : A). m ≢ number y) xs) (sym same) pairs.0

      by : (b : Bool) → (n == number x) ≡ b → (k : ℕ) → k ≡ cond (not b) (1 + prefix_len (λ y. not (is_it y)) xs) 0 → k < length (x ∷ xs)
          → ((j : ℕ) → j ≡ prefix_len (λ y. not (is_it y)) xs → j < length xs → (find is_it xs ≡ Some (slice_index_or xs j w)) × (remove xs j ≡ without xs))
          → (cond b (Some x) (find is_it xs) ≡ Some (slice_index_or (x ∷ xs) k w)) × (remove (x ∷ xs) k ≡ cond (not b) (x ∷ without xs) (without xs))
      by true e zero is low further = (refl, sym (all_left xs (differ ((Decides-eqb n (number x)).0 e))))
      by true e (suc k) is low further = absurd (omega (arith, is))
      by false e zero is low further = absurd (omega (arith, is))
      by false e (suc k) is low further =
          let rest = further k (omega (arith, is)) (omega (arith, low)) in
          (rest.0, ap (λ (ys : List A). x ∷ ys) rest.1)

  none_at : (xs : List A) → length xs ≤ prefix_len (λ y. not (is_it y)) xs → (find is_it xs ≡ None) × (xs ≡ without xs)
  none_at [] low = (refl, refl)
  none_at (x ∷ xs) low = by (n == number x) low (none_at xs)
    where
      by : (b : Bool) → length (x ∷ xs) ≤ cond (not b) (1 + prefix_len (λ y. not (is_it y)) xs) 0 → (length xs ≤ prefix_len (λ y. not (is_it y)) xs → (find is_it xs ≡ None) × (xs ≡ without xs)) → (cond b (Some x) (find is_it xs) ≡ None) × (x ∷ xs ≡ cond (not b) (x ∷ without xs) (without xs))
      by true low further = absurd (omega (arith, low))
      by false low further = let rest = further (omega (arith, low)) in (rest.0, ap (λ (ys : List A). x ∷ ys) rest.1)

  pub taken : (xs : List A) (k : ℕ) (w : A) → position is_it xs ≡ Some k → w ≡ slice_index_or xs k w → Pairs (λ (y z : A). number y ≢ number z) xs → (Some w ≡ find is_it xs) × (remove xs k ≡ without xs)
  taken xs k w is at pairs = by (nat_lt (prefix_len (λ y. not (is_it y)) xs) (length xs)) refl is
    where
      by : (b : Bool) → nat_lt (prefix_len (λ y. not (is_it y)) xs) (length xs) ≡ b → cond b (Some (prefix_len (λ y. not (is_it y)) xs)) None ≡ Some k → (Some w ≡ find is_it xs) × (remove xs k ≡ without xs)
      by true e is =
          let same : prefix_len (λ y. not (is_it y)) xs ≡ k = cc is in
          let t = taken_at xs k w (sym same) (subst (λ (m : ℕ). m < length xs) same ((Decides-ltb (prefix_len (λ y. not (is_it y)) xs) (length xs)).0 e)) pairs in
          (ap Some at ∙ sym t.0, t.1)
      by false e is = absurd (cc is)

  pub none_taken : (xs : List A) → position is_it xs ≡ None → (None ≡ find is_it xs) × (xs ≡ without xs)
  none_taken xs is = by (nat_lt (prefix_len (λ y. not (is_it y)) xs) (length xs)) refl is
    where
      past : ((nat_le (length xs) (prefix_len (λ y. not (is_it y)) xs) ≡ true) × (length xs ≤ prefix_len (λ y. not (is_it y)) xs)) ⊎ ((nat_le (length xs) (prefix_len (λ y. not (is_it y)) xs) ≡ false) × (prefix_len (λ y. not (is_it y)) xs < length xs))
          → nat_lt (prefix_len (λ y. not (is_it y)) xs) (length xs) ≡ false → length xs ≤ prefix_len (λ y. not (is_it y)) xs
      past (inl h) e = h.1
      past (inr h) e = let below = (Decides-ltb (prefix_len (λ y. not (is_it y)) xs) (length xs)).1 h.1 in absurd (cc (e, below))

      by : (b : Bool) → nat_lt (prefix_len (λ y. not (is_it y)) xs) (length xs) ≡ b → cond b (Some (prefix_len (λ y. not (is_it y)) xs)) None ≡ None → (None ≡ find is_it xs) × (xs ≡ without xs)
      by true e is = absurd (cc is)
      by false e is = let t = none_at xs (past (leb_tells (length xs) (prefix_len (λ y. not (is_it y)) xs)) e) in (sym t.0, t.1)

-- An element that was removed and is put back at its place makes the whole list again.
pub removed : {A : Type 0} (xs : List A) (k : ℕ) (x : A) → k < length xs → x ≡ slice_index_or xs k x → IsTaken xs k x (remove xs k)
removed [] k x low at = absurd (omega (arith, low))
removed {A} (y ∷ xs) zero x low at = record { low = omega arith; back = ap (λ (z : A). z ∷ xs) at }
removed {A} (y ∷ xs) (suc k) x low at = further (removed xs k x (omega (arith, low)) at)
  where
    further : IsTaken xs k x (remove xs k) → IsTaken (y ∷ xs) (suc k) x (remove (y ∷ xs) (suc k))
    further t = let low = t.low in record { low = omega (arith, low); back = ap (λ (zs : List A). y ∷ zs) t.back }

-- If none is found, then all are left.
pub none_left : {A : Type 0} (p : A → Bool) (xs : List A) → find p xs ≡ None → filter (λ x. not (p x)) xs ≡ xs
none_left p [] none = refl
none_left {A} p (x ∷ xs) none = by (p x) (none_left p xs) none
  where
    by : (b : Bool) → (find p xs ≡ None → filter (λ x. not (p x)) xs ≡ xs) → cond b (Some x) (find p xs) ≡ None → cond (not b) (x ∷ filter (λ x. not (p x)) xs) (filter (λ x. not (p x)) xs) ≡ x ∷ xs
    by true rest none = absurd (cc none)
    by false rest none = ap (λ (ys : List A). x ∷ ys) (rest none)
