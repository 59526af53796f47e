-- The last elements of lists, and what lists give.
use Rattle.std.proofs.Common.{◌≡◌, refl, sym, ◌∙◌, ap, ℕ, suc, ◌+◌, ◌-◌, ◌<◌, List, [], ◌∷◌, ◌++◌, append_assoc, get_or, take, length, map, arith}
use Rattle.std.specs.Prelude.{option_map, slice_get}
use Rattle.std.proofs.lemmas.List.{take_more}
use Rattle.sched_model.specs.Picks.{last_of}

-- The last number that a function gives is that of the last element.
pub last_of-map : {X : Type 0} (f : X → ℕ) (xs : List X) → last_of (map f xs) ≡ option_map f (slice_get xs (length xs - 1))
last_of-map f [] = refl
last_of-map f (x ∷ []) = refl
last_of-map f (x ∷ y ∷ xs) =
    let here : suc (length xs) - 1 ≡ length xs = omega arith in
    let later : suc (suc (length xs)) - 1 ≡ suc (length xs) = omega arith in
    last_of-map f (y ∷ xs) ∙ ap (λ n. option_map f (slice_get (y ∷ xs) n)) here ∙ sym (ap (λ n. option_map f (slice_get (x ∷ y ∷ xs) n)) later)

-- A function of lists that takes lists apart.
pub record IsGathering {X Y : Type 0} (gather : List X → List Y) : Type 0 where
  pub joins : (xs ys : List X) → gather (xs ++ ys) ≡ gather xs ++ gather ys

-- What was gathered of the first elements, and what one more gives, is what one more of the first elements
-- give.
pub gather_more : {X Y : Type 0} (gather : List X → List Y) → IsGathering gather → (xs : List X) (i : ℕ) (x : X) → i < length xs → x ≡ get_or xs i x
    → (old now made : List Y) → now ≡ old ++ gather (take i xs) → made ≡ now ++ gather (x ∷ []) → made ≡ old ++ gather (take (i + 1) xs)
gather_more gather g xs i x lt is old now made so step =
    let first : gather (take (i + 1) xs) ≡ gather (take i xs ++ x ∷ []) = ap gather (take_more xs i x lt ∙ ap (λ y. take i xs ++ y ∷ []) (sym is)) in
    let both : gather (take (i + 1) xs) ≡ gather (take i xs) ++ gather (x ∷ []) = first ∙ g.joins (take i xs) (x ∷ []) in
    step ∙ ap (λ l. l ++ gather (x ∷ [])) so ∙ append_assoc old (gather (take i xs)) (gather (x ∷ [])) ∙ ap (λ l. old ++ l) (sym both)
