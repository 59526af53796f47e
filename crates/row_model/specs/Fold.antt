-- A merge operator merges the operands of a key one after the other.
use Rattle.std.specs.Prelude.{◌≡◌, ℕ, ◌^◌, ◌<◌, List, [], ◌∷◌, ◌++◌, length, map, Option, Some, None, option_map}

-- The answer of a merge operator: bytes, or a refusal with a message.
pub data Outcome : Type 0 where
  Merged : (bytes : List ℕ) → Outcome
  Refused : (message : List ℕ) → Outcome

-- A merge operator takes a key, the existing value if there is one, and an operand.
abbrev pub Operator : Type 0
Operator = List ℕ → Option (List ℕ) → List ℕ → Outcome

-- Merges one operand onto an existing outcome, if there is one. If the existing outcome is a refusal, that
-- refusal is the answer. Otherwise, if the operand is a refusal, the operand is the answer.
abbrev pub merge_one : (merge : Operator) (key : List ℕ) (e : Option Outcome) (x : Outcome) → Outcome
merge_one merge key (Some (Refused message)) x = Refused message
merge_one merge key None (Refused message) = Refused message
merge_one merge key (Some (Merged bytes)) (Refused message) = Refused message
merge_one merge key None (Merged operand) = merge key None operand
merge_one merge key (Some (Merged bytes)) (Merged operand) = merge key (Some bytes) operand

-- Merges the operands, oldest first, one by one onto an existing outcome, if there is one. The answer is
-- None if there is neither an existing outcome nor an operand.
abbrev pub fold : (merge : Operator) (key : List ℕ) (e : Option Outcome) (xs : List Outcome) → Option Outcome
fold merge key e [] = e
fold merge key e (x ∷ xs) = fold merge key (Some (merge_one merge key e x)) xs

-- Merges operands that are bytes, oldest first, onto an existing value, if there is one.
abbrev pub fold_bytes : (merge : Operator) (key : List ℕ) (e : Option (List ℕ)) (xs : List (List ℕ)) → Option Outcome
fold_bytes merge key e xs = fold merge key (option_map Merged e) (map Merged xs)

-- An operator is lawful if two things hold. The newest operands `ys` may be folded first, from none, and
-- their result then counts as one operand. The merged bytes that it answers are fewer than 2^32.
pub record IsLawful (merge : Operator) : Type 0 where
  pub joins : (key : List ℕ) (e : Option (List ℕ)) (xs ys : List (List ℕ)) (one : Outcome)
      → fold_bytes merge key None ys ≡ Some one
      → fold_bytes merge key e (xs ++ ys) ≡ fold merge key (option_map Merged e) (map Merged xs ++ one ∷ [])
  pub short : (key : List ℕ) (e : Option (List ℕ)) (x bytes : List ℕ) → merge key e x ≡ Merged bytes
      → length bytes < 2 ^ 32
