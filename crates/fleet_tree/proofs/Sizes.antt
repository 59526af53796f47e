-- Sizes that are added one by one.
use Rattle.std.proofs.Common.{◌≡◌, ◌∙◌, ap, ℕ, ◌+◌, List, [], ◌∷◌, arith}
use Rattle.std.specs.Prelude.{fold, sum_by}
use Rattle.std.proofs.lemmas.List.Sums.{sum_by-cons}
use Rattle.row_model.specs.Written.Sizes.{saturated_sum}

-- Stopping the first part of a sum at 2^64 - 1 does not change the stopped sum.
pub stops_once : (a b : ℕ) → saturated_sum (saturated_sum a + b) ≡ saturated_sum (a + b)
stops_once a b = omega arith

pub fold-saturated : {X : Type 0} (size : X → ℕ) (start : ℕ) (xs : List X) → fold (λ sum x. saturated_sum (sum + size x)) (saturated_sum start) xs ≡ saturated_sum (start + sum_by size xs)
fold-saturated size start [] = omega arith
fold-saturated size start (x ∷ xs) =
    let one : saturated_sum (saturated_sum start + size x) ≡ saturated_sum (start + size x) = stops_once start (size x) in
    let all : sum_by size (x ∷ xs) ≡ size x + sum_by size xs = sum_by-cons size x xs in
    ap (λ s. fold (λ sum x. saturated_sum (sum + size x)) s xs) one
    ∙ fold-saturated size (start + size x) xs
    ∙ ap saturated_sum (omega (arith, all))

pub fold-is : {X : Type 0} (size : X → ℕ) (xs : List X) → fold (λ sum x. saturated_sum (sum + size x)) 0 xs ≡ saturated_sum (sum_by size xs)
fold-is size xs = fold-saturated size 0 xs ∙ ap saturated_sum (omega arith)
