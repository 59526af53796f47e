-- Fronts of one list, and what holds of all that comes after them.
use Rattle.std.proofs.Common.{◌≡◌, ℕ, ◌<◌, ◌≤◌, true, false, List, [], ◌∷◌, ◌++◌, length, refl, ap, sym, ◌∙◌, arith, append_assoc, subst}
use Rattle.std.specs.Prelude.{nat_lt}
use Rattle.std.specs.List.{AllByRecursion}
use Rattle.std.proofs.lemmas.Bool.Decides.{nat_tests}

-- Nothing more: the list is a front of itself.
pub append_nil : {A : Type 0} (xs : List A) → xs ++ [] ≡ xs
append_nil [] = refl
append_nil (x ∷ xs) = ap (λ ys. x ∷ ys) (append_nil xs)

pub all_front : {A : Type 0} (P : A → Type 0) (xs ys : List A) → AllByRecursion P (xs ++ ys) → AllByRecursion P xs
all_front P [] ys h = tt
all_front P (x ∷ xs) ys h = (h.0, all_front P xs ys h.1)

pub all_rest : {A : Type 0} (P : A → Type 0) (xs ys : List A) → AllByRecursion P (xs ++ ys) → AllByRecursion P ys
all_rest P [] ys h = h
all_rest P (x ∷ xs) ys h = all_rest P xs ys h.1

pub all_both : {A : Type 0} (P : A → Type 0) (xs ys : List A) → AllByRecursion P xs → AllByRecursion P ys → AllByRecursion P (xs ++ ys)
all_both P [] ys h i = i
all_both P (x ∷ xs) ys h i = (h.0, all_both P xs ys h.1 i)

pub all_then : {A : Type 0} (P Q : A → Type 0) (xs : List A) → ((x : A) → P x → Q x) → AllByRecursion P xs → AllByRecursion Q xs
all_then P Q [] f h = tt
all_then P Q (x ∷ xs) f h = (f x h.0, all_then P Q xs f h.1)

pub all_zip : {A : Type 0} (P Q R : A → Type 0) (xs : List A) → ((x : A) → P x → Q x → R x) → AllByRecursion P xs → AllByRecursion Q xs → AllByRecursion R xs
all_zip P Q R [] f h i = tt
all_zip P Q R (x ∷ xs) f h i = (f x h.0 i.0, all_zip P Q R xs f h.1 i.1)

-- Of two fronts of one list the shorter leaves all that the longer leaves.
pub all_after : {A : Type 0} (P : A → Type 0) (xs ys more rest all : List A) → xs ++ more ≡ all → ys ++ rest ≡ all → length xs ≤ length ys → AllByRecursion P more → AllByRecursion P rest
all_after P [] ys more rest all e f le h = all_rest P ys rest (subst (AllByRecursion P) (e ∙ sym f) h)
all_after P (x ∷ xs) [] more rest all e f le h = absurd (omega arith)
all_after P (x ∷ xs) (y ∷ ys) more rest [] e f le h = absurd (cc e)
all_after P (x ∷ xs) (y ∷ ys) more rest (z ∷ all) e f le h = all_after P xs ys more rest all (cc e) (cc f) (omega arith) h

-- A front of a front.
pub front_on : {A : Type 0} (xs ys zs : List A) → ((more : List A) × (xs ++ more ≡ ys)) → ((more : List A) × (ys ++ more ≡ zs)) → (more : List A) × (xs ++ more ≡ zs)
front_on xs ys zs f g = (f.0 ++ g.0, sym (append_assoc xs f.0 g.0) ∙ (ap (λ l. l ++ g.0) f.1 ∙ g.1))

-- Of two fronts of one list the shorter is a front of the longer.
pub front_between : {A : Type 0} (xs ys more rest all : List A) → xs ++ more ≡ all → ys ++ rest ≡ all → length xs ≤ length ys → (more : List A) × (xs ++ more ≡ ys)
front_between [] ys more rest all e f le = (ys, refl)
front_between (x ∷ xs) [] more rest all e f le = absurd (omega arith)
front_between (x ∷ xs) (y ∷ ys) more rest [] e f le = absurd (cc e)
front_between (x ∷ xs) (y ∷ ys) more rest (z ∷ all) e f le =
    let r = front_between xs ys more rest all (cc e) (cc f) (omega arith) in
    let head : x ≡ y = cc (e, f) in
    (r.0, λ i. head i ∷ r.1 i)

-- ---- what a comparison of lengths says

pub below_strictly : (m n : ℕ) → nat_lt m n ≡ true → m < n
below_strictly m n e = grind (arith, nat_tests)

pub below : (m n : ℕ) → nat_lt m n ≡ true → m ≤ n
below m n e = let h = below_strictly m n e in omega arith

pub not_below : (m n : ℕ) → nat_lt m n ≡ false → n ≤ m
not_below m n e = grind (arith, nat_tests)
