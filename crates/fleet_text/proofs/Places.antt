-- Places whose proposals failed rule 9 are spelt as the model spells them.
use Rattle.std.proofs.Common.{◌≡◌, ℕ, List, [], ◌∷◌, ◌++◌, map, refl, ap, ◌∙◌, arith, append_assoc}
use Rattle.std.specs.Fmt.{decimal}
use Rattle.std.proofs.lemmas.Fmt.{decimal_digit}
use Rattle.script_model.specs.Words.{list_text, comma}
use Rattle.script_model.specs.Replies as model
use Rattle.fleet_text.specs.Places.{place_text, places_text}

nine : (place : ℕ) → place_text (place, 9) ≡ model.place_text place
nine place = let digit : decimal 9 ≡ 57 ∷ [] = decimal_digit 9 (omega arith) in ap (λ digits. (decimal place ++ 58 ∷ []) ++ digits) digit ∙ append_assoc (decimal place) (58 ∷ []) (57 ∷ [])

each_nine : (places : List ℕ) → map place_text (map (λ place. (place, 9)) places) ≡ map model.place_text places
each_nine [] = refl
each_nine (place ∷ places) = let first = nine place in let others = each_nine places in cc

pub places_of_nines : (places : List ℕ) → places_text (map (λ place. (place, 9)) places) ≡ model.places_text places
places_of_nines places = ap (list_text comma) (each_nine places)
