-- Words joined with a separator.
use Rattle.std.proofs.Common.{◌≡◌, ◌≢◌, ℕ, List, [], ◌∷◌, ◌++◌, length, map, refl, ap, ◌∙◌, arith, append-nil, append_assoc}
use Rattle.std.specs.List.{join_by, join_with_byte}
use Rattle.std.proofs.lemmas.List.{length-map}
use Rattle.script_model.specs.Words.{list_text}

pub joined_by : {X : Type 0} (c : ℕ) (f : X → List ℕ) (xs : List X) → join_by f (c ∷ []) xs ≡ join_with_byte c (map f xs)
joined_by c f [] = refl
joined_by c f (x ∷ []) = append-nil (f x)
joined_by c f (x ∷ y ∷ xs) = ap (λ t. f x ++ c ∷ t) (joined_by c f (y ∷ xs))

pub list_joined : {X : Type 0} (c : ℕ) (f : X → List ℕ) (xs : List X) → length xs ≢ 0 → join_by f (c ∷ []) xs ≡ list_text c (map f xs)
list_joined c f [] some = absurd (some refl)
list_joined c f (x ∷ xs) some = joined_by c f (x ∷ xs)

-- Words that are joined, and then a last word, are joined as all of them.
pub joined_before : (c : ℕ) (words : List (List ℕ)) (last : List ℕ) → length words ≢ 0 → join_with_byte c (join_with_byte c words ∷ last ∷ []) ≡ join_with_byte c (words ++ last ∷ [])
joined_before c [] last some = absurd (some refl)
joined_before c (w ∷ []) last some = refl
joined_before c (w ∷ v ∷ words) last some = append_assoc w (c ∷ join_with_byte c (v ∷ words)) (c ∷ last) ∙ ap (λ text. w ++ c ∷ text) (joined_before c (v ∷ words) last (λ none. absurd (omega (arith, none))))

pub some_mapped : {X : Type 0} (f : X → List ℕ) (xs : List X) → length xs ≢ 0 → length (map f xs) ≢ 0
some_mapped f xs some none = some (let len = length-map xs f in omega (arith, len, none))
