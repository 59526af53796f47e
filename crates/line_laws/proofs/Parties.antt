-- Lists of parties: those that are found by number, and those that are left without one.
use Rattle.std.proofs.Common.{◌≡◌, ◌≢◌, refl, sym, ◌∙◌, ap, subst, ℕ, List, [], ◌∷◌, cond, Bool, true, false, inl, inr, Some}
use Rattle.std.specs.Prelude.{◌==◌, not, filter, find}
use Rattle.std.specs.List.{AllByRecursion}
use Rattle.std.proofs.lemmas.Bool.Decides.{Decides-eqb}
use Rattle.row_model.specs.Lists.{Pairs}
use Rattle.step_laws.proofs.Elements.{IsIn, all_at, all_to}
use Rattle.course_laws.proofs.Calls.{filtered}

-- An element that is found is in the list and passes the test.
pub record Found {A : Type 0} (p : A → Bool) (xs : List A) (x : A) : Type 0 where
  pub there : IsIn x xs
  pub passes : p x ≡ true

pub found : {A : Type 0} (p : A → Bool) (xs : List A) (x : A) → find p xs ≡ Some x → Found p xs x
found p [] x e = absurd (cc e)
found {A} p (y ∷ xs) x e = by (p y) refl (found p xs x) e
  where
    further : Found p xs x → Found p (y ∷ xs) x
    further f = record { there = inr f.there; passes = f.passes }

    by : (b : Bool) → p y ≡ b → (find p xs ≡ Some x → Found p xs x) → cond b (Some y) (find p xs) ≡ Some x → Found p (y ∷ xs) x
    by true passes rest e = let same : y ≡ x = cc e in record { there = inl same; passes = subst (λ z. p z ≡ true) same passes }
    by false passes rest e = further (rest e)

-- ---- elements with different numbers

-- Two elements of one number are one.
pub same_number : {A : Type 0} (number : A → ℕ) (xs : List A) (x y : A) → Pairs (λ a b. number a ≢ number b) xs → IsIn x xs → IsIn y xs → number x ≡ number y → x ≡ y
same_number number [] x y pairs one other same = absurd one
same_number number (z ∷ xs) x y pairs (inl first) (inl second) same = sym first ∙ second
same_number number (z ∷ xs) x y pairs (inl first) (inr other) same = absurd (all_at (λ b. number z ≢ number b) xs y pairs.0 other (ap number first ∙ same))
same_number number (z ∷ xs) x y pairs (inr one) (inl second) same = absurd (all_at (λ b. number z ≢ number b) xs x pairs.0 one (ap number second ∙ sym same))
same_number number (z ∷ xs) x y pairs (inr one) (inr other) same = same_number number xs x y pairs.1 one other same

-- Those that are left without a number have other numbers.
pub others : {A : Type 0} (number : A → ℕ) (n : ℕ) (xs : List A) → AllByRecursion (λ x. IsIn x xs × (n ≢ number x)) (filter (λ x. not (n == number x)) xs)
others number n xs = all_to _ _ (filter (λ x. not (n == number x)) xs) (λ x there h. (h.0, λ same. refused (n == number x) ((Decides-eqb n (number x)).1 same) h.1)) (filtered (λ x. not (n == number x)) xs)
  where
    refused : (b : Bool) → b ≡ true → not b ≡ true → ⊥
    refused true e h = absurd (cc h)
    refused false e h = absurd (cc e)
