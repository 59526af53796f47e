-- A merge operator that refuses every operand.
use Rattle.std.specs.Prelude.{◌≡◌, refl, ℕ, List, [], ◌∷◌, ◌++◌, map, Option, Some, None, option_map, codes}
use Rattle.std.proofs.Common.{sym, ◌∙◌, ap}
use Rattle.std.proofs.lemmas.Option.{same_Some}
use Rattle.row_model.specs.Fold.{Operator, Outcome, Merged, Refused, merge_one, fold, fold_bytes, IsLawful}

abbrev pub refusing : Operator
refusing key existing operand = Refused (codes "no")

-- A refusal stays, whatever is merged onto it.
stays : (key : List ℕ) (xs : List Outcome)
    → fold refusing key (Some (Refused (codes "no"))) xs ≡ Some (Refused (codes "no"))
stays key [] = refl
stays key (x ∷ xs) = stays key xs

first_refused : (key : List ℕ) (e : Option (List ℕ)) (x : List ℕ)
    → merge_one refusing key (option_map Merged e) (Merged x) ≡ Refused (codes "no")
first_refused key None x = refl
first_refused key (Some bytes) x = refl

over_refused : (key : List ℕ) (e : Option (List ℕ))
    → merge_one refusing key (option_map Merged e) (Refused (codes "no")) ≡ Refused (codes "no")
over_refused key None = refl
over_refused key (Some bytes) = refl

-- Any operands, or a refusal among them, give the refusal.
given : (key : List ℕ) (e : Option (List ℕ)) (x : List ℕ) (xs : List Outcome)
    → fold refusing key (option_map Merged e) (Merged x ∷ xs) ≡ Some (Refused (codes "no"))
given key e x xs = ap (λ y. fold refusing key (Some y) xs) (first_refused key e x) ∙ stays key xs

joins : (key : List ℕ) (e : Option (List ℕ)) (xs ys : List (List ℕ)) (one : Outcome)
    → fold_bytes refusing key None ys ≡ Some one
    → fold_bytes refusing key e (xs ++ ys) ≡ fold refusing key (option_map Merged e) (map Merged xs ++ one ∷ [])
joins key e xs [] one h = absurd (cc h)
joins key e [] (y ∷ ys) one h =
    let no : one ≡ Refused (codes "no") = sym (same_Some _ _ (sym (given key None y (map Merged ys)) ∙ h)) in
    given key e y (map Merged ys)
    ∙ sym (ap (λ y. fold refusing key (option_map Merged e) (y ∷ [])) no ∙ ap Some (over_refused key e))
joins key e (x ∷ xs) (y ∷ ys) one h =
    given key e x (map Merged (xs ++ y ∷ ys)) ∙ sym (given key e x (map Merged xs ++ one ∷ []))

pub refusing_is_lawful : IsLawful refusing
refusing_is_lawful = record { joins = joins; short = λ key e x bytes h. absurd (cc h) }
