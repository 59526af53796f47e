-- Two relations on lists of any elements: one between all pairs of elements of a list, and one between a
-- list and its prefix. Two ways to insert an element into a list that is in order.
use Rattle.std.specs.Prelude.{◌≡◌, Bool, if◌then◌else◌, List, [], ◌∷◌, ◌++◌, ⊤}
use Rattle.std.specs.List.{AllByRecursion}

-- The relation holds between each element of the list and each later element.
abbrev pub Pairs : {A : Type 0} → (A → A → Type 0) → List A → Type 0
Pairs R [] = ⊤
Pairs R (x ∷ xs) = AllByRecursion (R x) xs × Pairs R xs

-- The first list is a prefix of the second list.
abbrev pub IsPrefixOf : {A : Type 0} → (xs ys : List A) → Type 0
IsPrefixOf {A} xs ys = (rest : List A) × (xs ++ rest ≡ ys)

-- Inserts an element in front of the first one that it comes before.
abbrev pub insert_before : {A : Type 0} → (comes_before : A → A → Bool) → A → List A → List A
insert_before comes_before x [] = x ∷ []
insert_before comes_before x (y ∷ ys) = if comes_before x y then x ∷ y ∷ ys else y ∷ insert_before comes_before x ys

-- Inserts an element in front of the first one that does not come before it.
abbrev pub insert_after : {A : Type 0} → (comes_before : A → A → Bool) → A → List A → List A
insert_after comes_before x [] = x ∷ []
insert_after comes_before x (y ∷ ys) = if comes_before y x then y ∷ insert_after comes_before x ys else x ∷ y ∷ ys
