-- Sources that stand among nodes, one after the other, and the lowest of them.
use Rattle.std.proofs.Common.{◌≡◌, refl, sym, ◌∙◌, ap, ℕ, suc, ◌+◌, ◌<◌, ◌≤◌, List, [], ◌∷◌, ◌++◌, map, drop, length, Bool, true, false, cond, get_or, take, add-one, arith}
use Rattle.std.specs.Prelude.{Option, Some, None, fold}
use Rattle.std.proofs.Math.Seq.{drop-cons}
use Rattle.std.proofs.lemmas.List.{map-append, take_more}
use Rattle.std.proofs.lemmas.List.Sums.{fold-append}
use Rattle.fleet_model.specs.Nodes.{NodeName, L0, Run}
use Rattle.fleet_model.specs.Sources.{run_ids}
use Rattle.fleet_model.specs.Work.Scheduler.{lower}

pub run_ids-append : (xs ys : List NodeName) → run_ids (xs ++ ys) ≡ run_ids xs ++ run_ids ys
run_ids-append [] ys = refl
run_ids-append (L0 name ∷ xs) ys = run_ids-append xs ys
run_ids-append (Run id ∷ xs) ys = ap (λ (l : List ℕ). id ∷ l) (run_ids-append xs ys)

-- The lowest run of one source more.
pub lowest_of_more : {X : Type 0} (name : X → NodeName) (xs : List X) (i : ℕ) (x : X) (old made : Option ℕ) → i < length xs → x ≡ get_or xs i x
    → old ≡ fold lower None (run_ids (map name (take i xs))) → made ≡ fold lower old (run_ids (name x ∷ []))
    → made ≡ fold lower None (run_ids (map name (take (i + 1) xs)))
lowest_of_more name xs i x old made lt is so step =
    let more : take (i + 1) xs ≡ take i xs ++ x ∷ [] = take_more xs i x lt ∙ ap (λ y. take i xs ++ y ∷ []) (sym is) in
    let ids : run_ids (map name (take (i + 1) xs)) ≡ run_ids (map name (take i xs)) ++ run_ids (name x ∷ []) =
    ap (λ l. run_ids (map name l)) more ∙ ap run_ids (map-append name (take i xs) (x ∷ [])) ∙ run_ids-append (map name (take i xs)) (name x ∷ []) in
    step ∙ ap (λ start. fold lower start (run_ids (name x ∷ []))) so
    ∙ sym (fold-append lower None (run_ids (map name (take i xs))) (run_ids (name x ∷ []))) ∙ ap (fold lower None) (sym ids)
