-- Keys that share bytes with the first key of their block.
use Rattle.std.proofs.Common.{◌≡◌, refl, ◌∙◌, ap, ℕ, suc, ◌≤◌, ◌+◌, List, [], ◌∷◌, ◌++◌, length, take, drop, Bool, true, false, cond, arith}
use Rattle.std.specs.Prelude.{◌==◌}
use Rattle.std.proofs.lemmas.List.Sums.{common_prefix_len-le}
use Rattle.row_model.specs.Written.TableBytes.{shared_len}

pub shared_within : (first key : List ℕ) → (shared_len first key ≤ length first) × (shared_len first key ≤ length key)
shared_within first key = common_prefix_len-le (λ a b. a == b) first key

same_byte : (a b : ℕ) → (a == b) ≡ true → a ≡ b
same_byte a b e = grind arith

-- A key is what it shares with the first key, and the rest of it.
pub key_joined : (first key : List ℕ) → take (shared_len first key) first ++ drop (shared_len first key) key ≡ key
key_joined [] key = refl
key_joined (a ∷ first) [] = refl
key_joined (a ∷ first) (b ∷ key) = by (a == b) refl (key_joined first key)
  where
    by : (t : Bool) → (a == b) ≡ t → take (shared_len first key) first ++ drop (shared_len first key) key ≡ key → take (cond t (1 + shared_len first key) 0) (a ∷ first) ++ drop (cond t (1 + shared_len first key) 0) (b ∷ key) ≡ b ∷ key
    by false e rest = refl
    by true e rest =
        let one : 1 + shared_len first key ≡ suc (shared_len first key) = omega arith in
        ap (λ n. take n (a ∷ first) ++ drop n (b ∷ key)) one
        ∙ ap (λ x. x ∷ (take (shared_len first key) first ++ drop (shared_len first key) key)) (same_byte a b e)
        ∙ ap (λ xs. b ∷ xs) rest
