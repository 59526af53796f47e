-- A list that was filled with what an iterator yields.
use Rattle.std.proofs.Common.{◌≡◌, List, map, Option, Result, Ok, Err, OnOk, ap, subst, sym, ◌∙◌}
use Rattle.std.specs.Prelude.{MatchResult}
use Rattle.std.specs.Iterator.{Drains, Yields}
use Rattle.std.proofs.lemmas.Iterator.{YieldsList, items_from_drains}

-- An iterator that was drained gave all its items.
pub filled : {S A B E : Type 0} (steps : S → Option A → S → Type 0) (v : A → B) (all : List B) (it s : S) (xs items : List A) (r : Result (Unit {0}) E)
    → it ≡ s → MatchResult r (λ _. Drains steps it xs) (λ _. (t : S) × Yields steps it xs t) → YieldsList steps v s all → items ≡ xs → OnOk r (map v items ≡ all)
filled steps v all it s xs items (Ok done) same drained yields is =
    ap (map v) is ∙ items_from_drains xs (drained.1.0, drained.1.1, λ w. (drained.0, drained.1.2)) (subst (λ i. YieldsList steps v i all) (sym same) yields)
filled steps v all it s xs items (Err e) same ended yields is = tt
