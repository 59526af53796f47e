-- Lists of names of nodes: which names are in them, and lists that are apart.
use Rattle.std.proofs.Common.{◌≡◌, refl, sym, ap, subst, ℕ, List, [], ◌∷◌, ◌++◌, Bool, true, false, not, cond, ◌⊎◌, inl, inr, eqb-true, eq-eqb}
use Rattle.std.specs.Prelude.{◌==◌}
use Rattle.std.specs.List.{list_all}
use Rattle.fleet_model.specs.Work.Gates.{are_distinct}
use Rattle.fleet_model.specs.Nodes.{NodeName, L0, Run, name_eq, names_contain}
use Rattle.fleet_model.specs.Sources.{is_apart}
use Rattle.sched_laws.proofs.Lists.{both_true, true_and}

-- The name is in the list.
abbrev pub In : NodeName → List NodeName → Type 0
In x xs = names_contain xs x ≡ true

same_number : (a : ℕ) → (a == a) ≡ true
same_number a = eq-eqb a a refl

pub equal_names : (a b : NodeName) → name_eq a b ≡ true → a ≡ b
equal_names (L0 a) (L0 b) e = ap L0 (eqb-true a b e)
equal_names (L0 a) (Run b) e = absurd (cc e)
equal_names (Run a) (L0 b) e = absurd (cc e)
equal_names (Run a) (Run b) e = ap Run (eqb-true a b e)

pub name_itself : (a : NodeName) → name_eq a a ≡ true
name_itself (L0 a) = same_number a
name_itself (Run a) = same_number a

-- ---- members

pub in_first : (x : NodeName) (xs : List NodeName) → In x (x ∷ xs)
in_first x xs = ap (λ b. cond b true (names_contain xs x)) (name_itself x)

pub in_later : (x y : NodeName) (xs : List NodeName) → In x xs → In x (y ∷ xs)
in_later x y xs h = by (name_eq y x)
  where
    by : (b : Bool) → cond b true (names_contain xs x) ≡ true
    by true = refl
    by false = h

pub in_cases : (x y : NodeName) (xs : List NodeName) → In x (y ∷ xs) → (y ≡ x) ⊎ In x xs
in_cases x y xs h = by (name_eq y x) refl h
  where
    by : (b : Bool) → name_eq y x ≡ b → cond b true (names_contain xs x) ≡ true → (y ≡ x) ⊎ In x xs
    by true e h = inl (equal_names y x e)
    by false e h = inr h

pub in_front : (x : NodeName) (xs ys : List NodeName) → In x xs → In x (xs ++ ys)
in_front x [] ys h = absurd (cc h)
in_front x (y ∷ xs) ys h = by (in_cases x y xs h) (in_front x xs ys)
  where
    by : (y ≡ x) ⊎ In x xs → (In x xs → In x (xs ++ ys)) → In x (y ∷ (xs ++ ys))
    by (inl e) later = subst (λ z. In x (z ∷ (xs ++ ys))) (sym e) (in_first x (xs ++ ys))
    by (inr rest) later = in_later x y (xs ++ ys) (later rest)

pub in_back : (x : NodeName) (xs ys : List NodeName) → In x ys → In x (xs ++ ys)
in_back x [] ys h = h
in_back x (y ∷ xs) ys h = in_later x y (xs ++ ys) (in_back x xs ys h)

-- A name in two lists joined is in the first or in the second one.
pub in_append : (x : NodeName) (xs ys : List NodeName) → In x (xs ++ ys) → In x xs ⊎ In x ys
in_append x [] ys h = inr h
in_append x (y ∷ xs) ys h = by (in_cases x y (xs ++ ys) h) (λ rest. in_append x xs ys rest)
  where
    later : In x xs ⊎ In x ys → In x (y ∷ xs) ⊎ In x ys
    later (inl rest) = inl (in_later x y xs rest)
    later (inr back) = inr back

    by : (y ≡ x) ⊎ In x (xs ++ ys) → (In x (xs ++ ys) → In x xs ⊎ In x ys) → In x (y ∷ xs) ⊎ In x ys
    by (inl e) rest = inl (subst (λ z. In x (z ∷ xs)) (sym e) (in_first x xs))
    by (inr h) rest = later (rest h)

-- ---- lists within a list

pub within_at : (xs ys : List NodeName) (x : NodeName) → list_all (names_contain ys) xs ≡ true → In x xs → In x ys
within_at [] ys x all h = absurd (cc h)
within_at (y ∷ xs) ys x all h = by (in_cases x y xs h) (both_true (names_contain ys y) (list_all (names_contain ys) xs) all) (within_at xs ys x)
  where
    by : (y ≡ x) ⊎ In x xs → In y ys × (list_all (names_contain ys) xs ≡ true) → (list_all (names_contain ys) xs ≡ true → In x xs → In x ys) → In x ys
    by (inl e) all later = subst (λ z. In z ys) e all.0
    by (inr rest) all later = later all.1 rest

pub within_from : (xs ys : List NodeName) → ((x : NodeName) → In x xs → In x ys) → list_all (names_contain ys) xs ≡ true
within_from [] ys each = refl
within_from (y ∷ xs) ys each =
    true_and (names_contain ys y) (list_all (names_contain ys) xs) (each y (in_first y xs)) (within_from xs ys (λ x h. each x (in_later x y xs h)))

-- ---- lists that are apart

not_in : (b : Bool) → (b ≡ true → ⊥) → not b ≡ true
not_in true never = absurd (never refl)
not_in false never = refl

pub never_in : (b : Bool) → not b ≡ true → b ≡ true → ⊥
never_in true e f = cc e
never_in false e f = cc f

pub apart_from : (xs ys : List NodeName) → ((x : NodeName) → In x xs → In x ys → ⊥) → is_apart xs ys ≡ true
apart_from [] ys never = refl
apart_from (y ∷ xs) ys never =
    true_and (not (names_contain ys y)) (is_apart xs ys) (not_in (names_contain ys y) (never y (in_first y xs))) (apart_from xs ys (λ x h. never x (in_later x y xs h)))

pub apart_at : (xs ys : List NodeName) (x : NodeName) → is_apart xs ys ≡ true → In x xs → In x ys → ⊥
apart_at [] ys x all h there = cc h
apart_at (y ∷ xs) ys x all h there = by (in_cases x y xs h) (both_true (not (names_contain ys y)) (is_apart xs ys) all) (apart_at xs ys x)
  where
    by : (y ≡ x) ⊎ In x xs → (not (names_contain ys y) ≡ true) × (is_apart xs ys ≡ true) → (is_apart xs ys ≡ true → In x xs → In x ys → ⊥) → ⊥
    by (inl e) all later = never_in (names_contain ys y) all.0 (subst (λ z. In z ys) (sym e) there)
    by (inr rest) all later = later all.1 rest there

pub apart_back : (xs ys : List NodeName) → is_apart xs ys ≡ true → is_apart ys xs ≡ true
apart_back xs ys all = apart_from ys xs (λ x h there. apart_at xs ys x all there h)

-- ---- lists that name no node twice

pub distinct_first : (y : NodeName) (ys : List NodeName) → are_distinct (y ∷ ys) ≡ true → In y ys → ⊥
distinct_first y ys once h = never_in (names_contain ys y) (both_true (not (names_contain ys y)) (are_distinct ys) once).0 h

pub distinct_rest : (y : NodeName) (ys : List NodeName) → are_distinct (y ∷ ys) ≡ true → are_distinct ys ≡ true
distinct_rest y ys once = (both_true (not (names_contain ys y)) (are_distinct ys) once).1

pub distinct_back : (xs ys : List NodeName) → are_distinct (xs ++ ys) ≡ true → are_distinct ys ≡ true
distinct_back [] ys once = once
distinct_back (x ∷ xs) ys once = distinct_back xs ys (distinct_rest x (xs ++ ys) once)

pub distinct_front : (xs ys : List NodeName) → are_distinct (xs ++ ys) ≡ true → are_distinct xs ≡ true
distinct_front [] ys once = refl
distinct_front (x ∷ xs) ys once =
    true_and (not (names_contain xs x)) (are_distinct xs)
    (not_in (names_contain xs x) (λ h. distinct_first x (xs ++ ys) once (in_front x xs ys h)))
    (distinct_front xs ys (distinct_rest x (xs ++ ys) once))

pub distinct_from : (y : NodeName) (ys : List NodeName) → (In y ys → ⊥) → are_distinct ys ≡ true → are_distinct (y ∷ ys) ≡ true
distinct_from y ys never once = true_and (not (names_contain ys y)) (are_distinct ys) (not_in (names_contain ys y) never) once
