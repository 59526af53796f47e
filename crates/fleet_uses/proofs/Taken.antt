-- The first answers of a scan are taken one after another.
use Rattle.std.proofs.Common.{◌≡◌, sym, ◌∙◌, ap, ℕ, ◌≤◌, List, [], ◌∷◌, ◌++◌, length, map, take, false, Some, Ok, append-nil, arith}
use Rattle.std.proofs.lemmas.List.{append_assoc, map-append, length-map, take_all, take_at}
use Rattle.row_model.specs.Fold.{Outcome}
use Rattle.fleet_scan.specs.Answered.{Scanning, Nexts, pair_of}
use Rattle.fleet_scan.specs.declared.answer.KeyAnswer.{KeyAnswer}

abbrev Pairs : Type 0
Pairs = List (List ℕ × Outcome)

pub still_alive : (old new : Scanning) (answer : KeyAnswer) → old.failed ≡ false → Nexts old new (Ok (Some answer)) → new.failed ≡ false
still_alive old new answer alive nexts = sym (ap (λ (s : Scanning). s.failed) (nexts.takes alive)) ∙ alive

-- One more answer is taken.
pub one_more : (all : Pairs) (given : List KeyAnswer) (old new : Scanning) (answer : KeyAnswer) → old.failed ≡ false → Nexts old new (Ok (Some answer)) → all ≡ map pair_of given ++ old.left
    → all ≡ map pair_of (given ++ answer ∷ []) ++ new.left
one_more all given old new answer alive nexts same =
    same
    ∙ ap (λ (w : Pairs). map pair_of given ++ w) (ap (λ (s : Scanning). s.left) (nexts.takes alive))
    ∙ sym (append_assoc (map pair_of given) (pair_of answer ∷ []) new.left)
    ∙ sym (ap (λ (w : Pairs). w ++ new.left) (map-append pair_of given (answer ∷ [])))

-- If no answer is left, all are given.
pub none_left : (limit : ℕ) (all : Pairs) (given : List KeyAnswer) (scan : Scanning) → scan.left ≡ [] → all ≡ map pair_of given ++ scan.left → length given ≤ limit → map pair_of given ≡ take limit all
none_left limit all given scan none same few =
    let is : all ≡ map pair_of given = same ∙ ap (λ (w : Pairs). map pair_of given ++ w) none ∙ append-nil (map pair_of given) in
    let count : length (map pair_of given) ≡ length given = length-map given pair_of in
    sym (ap (take limit) is ∙ take_all limit (map pair_of given) (omega arith))

-- As many as asked are given.
pub limit_reached : (limit : ℕ) (all : Pairs) (given : List KeyAnswer) (scan : Scanning) → all ≡ map pair_of given ++ scan.left → length given ≤ limit → limit ≤ length given → map pair_of given ≡ take limit all
limit_reached limit all given scan same few enough =
    let count : length (map pair_of given) ≡ length given = length-map given pair_of in
    sym (ap (take limit) same ∙ take_at (map pair_of given) scan.left limit (omega arith))
