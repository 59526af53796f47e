-- Elements of lists: what all elements have, what every two have, and lists that grow at the end.
use Rattle.std.proofs.Common.{◌≡◌, refl, sym, ◌∙◌, ap, subst, ℕ, List, [], ◌∷◌, ◌++◌, cond, Bool, true, false, inl, inr, ◌⊎◌, Some}
use Rattle.std.specs.Prelude.{◌&&◌, ◌||◌, IsTrue, ◌==◌, map, flat_map, find}
use Rattle.std.specs.List.{AllByRecursion, list_any, list_all}
use Rattle.std.proofs.lemmas.Bool.Decides.{Decides-eqb}
use Rattle.std.proofs.lemmas.List.{append-nil, append_assoc}
use Rattle.row_model.specs.Lists.{Pairs}
use Rattle.fleet_model.specs.Jobs.{contains}
pub use Rattle.row_laws.proofs.Elements.{all_append, all_front, all_back}

-- ---- elements

-- The list has this element.
abbrev pub IsIn : {A : Type 0} → A → List A → Type 0
IsIn x [] = ⊥
IsIn x (y ∷ ys) = (y ≡ x) ⊎ IsIn x ys

pub all_at : {A : Type 0} (P : A → Type 0) (xs : List A) (x : A) → AllByRecursion P xs → IsIn x xs → P x
all_at P [] x h there = absurd there
all_at P (y ∷ ys) x h (inl same) = subst P same h.0
all_at P (y ∷ ys) x h (inr there) = all_at P ys x h.1 there

pub all_from : {A : Type 0} (P : A → Type 0) (xs : List A) → ((x : A) → IsIn x xs → P x) → AllByRecursion P xs
all_from P [] h = tt
all_from P (x ∷ xs) h = (h x (inl refl), all_from P xs (λ y there. h y (inr there)))

-- What all elements have becomes something else, given what each element is.
pub all_to : {A : Type 0} (P Q : A → Type 0) (xs : List A) → ((x : A) → IsIn x xs → P x → Q x) → AllByRecursion P xs → AllByRecursion Q xs
all_to P Q xs f h = all_from Q xs (λ x there. f x there (all_at P xs x h there))

pub all_push : {A : Type 0} (P : A → Type 0) (xs : List A) (x : A) → AllByRecursion P xs → P x → AllByRecursion P (xs ++ x ∷ [])
all_push P xs x h p = all_append P xs (x ∷ []) h (p, tt)

pub in_front : {A : Type 0} (x : A) (xs ys : List A) → IsIn x xs → IsIn x (xs ++ ys)
in_front x [] ys there = absurd there
in_front x (y ∷ xs) ys (inl same) = inl same
in_front x (y ∷ xs) ys (inr there) = inr (in_front x xs ys there)

pub in_back : {A : Type 0} (x : A) (xs ys : List A) → IsIn x ys → IsIn x (xs ++ ys)
in_back x [] ys there = there
in_back x (y ∷ xs) ys there = inr (in_back x xs ys there)

pub in_append : {A : Type 0} (x : A) (xs ys : List A) → IsIn x (xs ++ ys) → IsIn x xs ⊎ IsIn x ys
in_append x [] ys there = inr there
in_append x (y ∷ xs) ys (inl same) = inl (inl same)
in_append x (y ∷ xs) ys (inr there) = by (in_append x xs ys there)
  where
    by : IsIn x xs ⊎ IsIn x ys → IsIn x (y ∷ xs) ⊎ IsIn x ys
    by (inl front) = inl (inr front)
    by (inr back) = inr back

pub all_flat : {A B : Type 0} (P : B → Type 0) (f : A → List B) (xs : List A) → AllByRecursion (λ x. AllByRecursion P (f x)) xs → AllByRecursion P (flat_map f xs)
all_flat P f [] h = tt
all_flat P f (x ∷ xs) h = all_append P (f x) (flat_map f xs) h.0 (all_flat P f xs h.1)

pub all_unflat : {A B : Type 0} (P : B → Type 0) (f : A → List B) (xs : List A) → AllByRecursion P (flat_map f xs) → AllByRecursion (λ x. AllByRecursion P (f x)) xs
all_unflat P f [] h = tt
all_unflat P f (x ∷ xs) h = (all_front P (f x) (flat_map f xs) h, all_unflat P f xs (all_back P (f x) (flat_map f xs) h))

-- ---- every two

pub pairs_push : {A : Type 0} (R : A → A → Type 0) (xs : List A) (x : A) → Pairs R xs → AllByRecursion (λ y. R y x) xs → Pairs R (xs ++ x ∷ [])
pairs_push R [] x h last = (tt, tt)
pairs_push R (y ∷ xs) x h last = (all_push (R y) xs x h.0 last.0, pairs_push R xs x h.1 last.1)

-- A relation between every two elements of a mapped list, by what the elements were.
pub pairs_map : {A B : Type 0} (R : A → A → Type 0) (S : B → B → Type 0) (f : A → B) (xs : List A)
    → ((x y : A) → IsIn x xs → IsIn y xs → R x y → S (f x) (f y)) → Pairs R xs → Pairs S (map f xs)
pairs_map R S f [] h rel = tt
pairs_map {A} {B} R S f (x ∷ xs) h rel = (first xs (λ y there. inr there) rel.0, pairs_map R S f xs (λ a b one other. h a b (inr one) (inr other)) rel.1)
  where
    first : (ys : List A) → ((y : A) → IsIn y ys → IsIn y (x ∷ xs)) → AllByRecursion (R x) ys → AllByRecursion (S (f x)) (map f ys)
    first [] there all = tt
    first (y ∷ ys) there all = (h x y (inl refl) (there y (inl refl)) all.0, first ys (λ z one. there z (inr one)) all.1)

-- ---- tests

pub any_front : {A : Type 0} (p : A → Bool) (xs ys : List A) → IsTrue (list_any p xs) → IsTrue (list_any p (xs ++ ys))
any_front p [] ys h = absurd (cc h)
any_front p (x ∷ xs) ys h = by (p x) (any_front p xs ys) h
  where
    by : (b : Bool) → (IsTrue (list_any p xs) → IsTrue (list_any p (xs ++ ys))) → IsTrue (b || list_any p xs) → IsTrue (b || list_any p (xs ++ ys))
    by true rest h = refl
    by false rest h = rest h

pub any_push_no : {A : Type 0} (p : A → Bool) (xs : List A) (x : A) → p x ≡ false → list_any p (xs ++ x ∷ []) ≡ list_any p xs
any_push_no p [] x fails = ap (λ b. b || false) fails
any_push_no p (y ∷ xs) x fails = ap (λ b. p y || b) (any_push_no p xs x fails)

pub any_push_yes : {A : Type 0} (p : A → Bool) (xs : List A) (x : A) → IsTrue (p x) → IsTrue (list_any p (xs ++ x ∷ []))
any_push_yes p [] x holds = ap (λ b. b || false) holds
any_push_yes p (y ∷ xs) x holds = by (p y) (any_push_yes p xs x holds)
  where
    by : (b : Bool) → IsTrue (list_any p (xs ++ x ∷ [])) → IsTrue (b || list_any p (xs ++ x ∷ []))
    by true rest = refl
    by false rest = rest

-- An element passes a test that some element passes.
pub record Passes {A : Type 0} (p : A → Bool) (xs : List A) : Type 0 where
  pub element : A
  pub there : IsIn element xs
  pub passes : p element ≡ true

pub any_element : {A : Type 0} (p : A → Bool) (xs : List A) → IsTrue (list_any p xs) → Passes p xs
any_element p [] h = absurd (cc h)
any_element p (x ∷ xs) h = by (p x) refl (any_element p xs) h
  where
    further : Passes p xs → Passes p (x ∷ xs)
    further found = record { element = found.element; there = inr found.there; passes = found.passes }

    by : (b : Bool) → p x ≡ b → (IsTrue (list_any p xs) → Passes p xs) → IsTrue (b || list_any p xs) → Passes p (x ∷ xs)
    by true e rest h = record { element = x; there = inl refl; passes = e }
    by false e rest h = further (rest h)

pub any_of : {A : Type 0} (p : A → Bool) (xs : List A) (x : A) → IsIn x xs → p x ≡ true → IsTrue (list_any p xs)
any_of p [] x there e = absurd there
any_of p (y ∷ xs) x (inl same) e = rw same (ap (λ b. b || list_any p xs) e)
any_of p (y ∷ xs) x (inr there) e = by (p y) (any_of p xs x there e)
  where
    by : (b : Bool) → IsTrue (list_any p xs) → IsTrue (b || list_any p xs)
    by true h = refl
    by false h = h

pub all_true_front : {A : Type 0} (p : A → Bool) (xs : List A) → IsTrue (list_all p xs) → AllByRecursion (λ x. IsTrue (p x)) xs
all_true_front p [] h = tt
all_true_front p (x ∷ xs) h = by (p x) refl (all_true_front p xs) h
  where
    by : (b : Bool) → p x ≡ b → (IsTrue (list_all p xs) → AllByRecursion (λ x. IsTrue (p x)) xs) → IsTrue (b && list_all p xs) → IsTrue (p x) × AllByRecursion (λ x. IsTrue (p x)) xs
    by true e rest h = (e, rest h)
    by false e rest h = absurd (cc h)

pub all_true_from : {A : Type 0} (p : A → Bool) (xs : List A) → AllByRecursion (λ x. IsTrue (p x)) xs → IsTrue (list_all p xs)
all_true_from p [] h = refl
all_true_from p (x ∷ xs) h = rw h.0 (all_true_from p xs h.1)

-- ---- numbers in lists

pub is_itself : (n : ℕ) → (n == n) ≡ true
is_itself n = (Decides-eqb n n).1 refl

pub contains_front : (xs ys : List ℕ) (n : ℕ) → IsTrue (contains xs n) → IsTrue (contains (xs ++ ys) n)
contains_front [] ys n h = absurd (cc h)
contains_front (x ∷ xs) ys n h = by (x == n) (contains_front xs ys n) h
  where
    by : (b : Bool) → (IsTrue (contains xs n) → IsTrue (contains (xs ++ ys) n)) → IsTrue (cond b true (contains xs n)) → IsTrue (cond b true (contains (xs ++ ys) n))
    by true rest h = refl
    by false rest h = rest h

pub contains_in : (xs : List ℕ) (n : ℕ) → IsTrue (contains xs n) → IsIn n xs
contains_in [] n h = absurd (cc h)
contains_in (x ∷ xs) n h = by (x == n) refl (contains_in xs n) h
  where
    by : (b : Bool) → (x == n) ≡ b → (IsTrue (contains xs n) → IsIn n xs) → IsTrue (cond b true (contains xs n)) → IsIn n (x ∷ xs)
    by true e rest h = inl ((Decides-eqb x n).0 e)
    by false e rest h = inr (rest h)

pub in_contains : (xs : List ℕ) (n : ℕ) → IsIn n xs → IsTrue (contains xs n)
in_contains [] n there = absurd there
in_contains (x ∷ xs) n (inl same) = rw same (ap (λ b. cond b true (contains xs n)) (is_itself n))
in_contains (x ∷ xs) n (inr there) = by (x == n) (in_contains xs n there)
  where
    by : (b : Bool) → IsTrue (contains xs n) → IsTrue (cond b true (contains xs n))
    by true h = refl
    by false h = h

-- A number is not in a list that has no element equal to it.
pub contains_no : (xs : List ℕ) (n : ℕ) → (IsIn n xs → ⊥) → contains xs n ≡ false
contains_no xs n h = by (contains xs n) refl
  where
    by : (b : Bool) → contains xs n ≡ b → b ≡ false
    by true e = absurd (h (contains_in xs n e))
    by false e = refl

-- ---- lists that grow at the end

pub flat_push : {A B : Type 0} (f : A → List B) (xs : List A) (x : A) → flat_map f (xs ++ x ∷ []) ≡ flat_map f xs ++ f x
flat_push f [] x = append-nil (f x)
flat_push f (y ∷ xs) x = ap (λ ys. f y ++ ys) (flat_push f xs x) ∙ sym (append_assoc (f y) (flat_map f xs) (f x))

pub flat_push_none : {A B : Type 0} (f : A → List B) (xs : List A) (x : A) → f x ≡ [] → flat_map f (xs ++ x ∷ []) ≡ flat_map f xs
flat_push_none f xs x none = flat_push f xs x ∙ ap (λ ys. flat_map f xs ++ ys) none ∙ append-nil (flat_map f xs)

pub found_front : {A : Type 0} (p : A → Bool) (xs ys : List A) (x : A) → find p xs ≡ Some x → find p (xs ++ ys) ≡ Some x
found_front p [] ys x e = absurd (cc e)
found_front p (y ∷ xs) ys x e = by (p y) (found_front p xs ys x) e
  where
    by : (b : Bool) → (find p xs ≡ Some x → find p (xs ++ ys) ≡ Some x) → cond b (Some y) (find p xs) ≡ Some x → cond b (Some y) (find p (xs ++ ys)) ≡ Some x
    by true rest e = e
    by false rest e = rest e

-- Where a list that grew by one is cut in two: after the new element, or before it.
pub data Cut {A : Type 0} (front back old : List A) (last : A) : Type 0 where
  Whole : front ≡ old ++ last ∷ [] → Cut front back old last
  Before : (rest : List A) → front ++ rest ≡ old → Cut front back old last

-- A front of a list that grew by one element is the whole list, or a front of the list before.
pub cut_where : {A : Type 0} (front back old : List A) (last : A) → front ++ back ≡ old ++ last ∷ [] → Cut front back old last
cut_where [] back old last e = Before old refl
cut_where (x ∷ front) back [] last e = by front (cc e) (cc e)
  where
    by : (front : List _) → x ≡ last → front ++ back ≡ [] → Cut (x ∷ front) back [] last
    by [] same none = Whole (ap (λ y. y ∷ []) same)
    by (y ∷ front) same none = absurd (cc none)
cut_where {A} (x ∷ front) back (y ∷ old) last e = by (cc e) (cut_where front back old last (cc e))
  where
    by : x ≡ y → Cut front back old last → Cut (x ∷ front) back (y ∷ old) last
    by same (Whole all) = Whole (cc (same, all))
    by same (Before rest part) = Before rest (cc (same, part))
