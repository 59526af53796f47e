-- The operands of a group cut into batches, and the batches' answers.
use Rattle.std.proofs.Common.{◌≡◌, refl, ap, ℕ, suc, ◌+◌, ◌≤◌, List, [], ◌∷◌, ◌++◌, map, length, Bool, true, false, Ok, Err, arith}
use Rattle.std.specs.Prelude.{nat_le, Result, if◌then◌else◌}
use Rattle.std.proofs.lemmas.Bool.{leb-true, leb-false}
use Rattle.row_model.specs.Rows.{Row}
use Rattle.row_laws.specs.Batches.{put_first, batches_from}
use Rattle.fleet_rows.specs.declared.errors.SlateDBError.{SlateDBError}
use Rattle.fleet_fold.specs.Folded.{one_more, all_answers}

-- Elements that fill a batch are the first batch.
pub full_first : (n standing : ℕ) (x : Row) (xs later : List Row) → length xs + suc standing ≡ n → batches_from n standing (x ∷ (xs ++ later)) ≡ (x ∷ xs) ∷ batches_from n 0 later
full_first n standing x [] later h = by (nat_le n (standing + 1)) refl
  where
    by : (b : Bool) → nat_le n (standing + 1) ≡ b → put_first b x (batches_from n (if b then 0 else standing + 1) later) ≡ (x ∷ []) ∷ batches_from n 0 later
    by true e = refl
    by false e = let more = leb-false n (standing + 1) e in absurd (omega arith)
full_first n standing x (y ∷ ys) later h = by (nat_le n (standing + 1)) refl (full_first n (standing + 1) y ys later (omega arith))
  where
    by : (b : Bool) → nat_le n (standing + 1) ≡ b → batches_from n (standing + 1) (y ∷ (ys ++ later)) ≡ (y ∷ ys) ∷ batches_from n 0 later
        → put_first b x (batches_from n (if b then 0 else standing + 1) (y ∷ (ys ++ later))) ≡ (x ∷ (y ∷ ys)) ∷ batches_from n 0 later
    by true e rest = let least = leb-true n (standing + 1) e in absurd (omega arith)
    by false e rest = ap (put_first false x) rest

-- Elements that do not exceed one batch are the only batch.
pub one_batch : (n standing : ℕ) (x : Row) (xs : List Row) → length xs + suc standing ≤ n → batches_from n standing (x ∷ xs) ≡ (x ∷ xs) ∷ []
one_batch n standing x [] h = by (nat_le n (standing + 1))
  where
    by : (b : Bool) → put_first b x [] ≡ (x ∷ []) ∷ []
    by true = refl
    by false = refl
one_batch n standing x (y ∷ ys) h = by (nat_le n (standing + 1)) refl (one_batch n (standing + 1) y ys (omega arith))
  where
    by : (b : Bool) → nat_le n (standing + 1) ≡ b → batches_from n (standing + 1) (y ∷ ys) ≡ (y ∷ ys) ∷ []
        → put_first b x (batches_from n (if b then 0 else standing + 1) (y ∷ ys)) ≡ (x ∷ (y ∷ ys)) ∷ []
    by true e rest = let least = leb-true n (standing + 1) e in absurd (omega arith)
    by false e rest = ap (put_first false x) rest

module _ {A : Type 0} where
  pub all_ok : (xs : List A) → all_answers (map Ok xs) ≡ Ok xs
  all_ok [] = refl
  all_ok (x ∷ xs) = ap (one_more (Ok x)) (all_ok xs)

  -- The first error is the answer.
  pub first_refused : (xs : List A) (e : SlateDBError) (later : List (Result A SlateDBError)) → all_answers (map Ok xs ++ Err e ∷ later) ≡ Err e
  first_refused [] e later = refl
  first_refused (x ∷ xs) e later = ap (one_more (Ok x)) (first_refused xs e later)
