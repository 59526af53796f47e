-- A read asks for one key at a sequence and a moment. The key's rows give the answer.
use Rattle.std.specs.Prelude.{ℕ, Bool, nat_le, if◌then◌else◌, ℤ, List, [], ◌∷◌, ◌++◌, filter, Option, Some, None}
use Rattle.row_model.specs.Rows.{Content, Value, Merge, Tombstone, Row, is_expired}
use Rattle.row_model.specs.Fold.{Operator, Outcome, fold_bytes}

-- Puts a row on top of the operands of older rows. An operand that is not expired is added after them, and
-- an expired operand is skipped. A value or a tombstone hides the older operands, even if it is expired.
abbrev pub with_operand : Content → Bool → List (List ℕ) → List (List ℕ)
with_operand (Value bytes) expired older = []
with_operand (Merge bytes) expired older = if expired then older else older ++ bytes ∷ []
with_operand Tombstone expired older = []

-- The operands that are newer than the newest value or tombstone and are not expired, oldest first.
abbrev pub operands : ℤ → List Row → List (List ℕ)
operands now [] = []
operands now (r ∷ rows) = with_operand r.content (is_expired r now) (operands now rows)

-- Puts a row on top of the base of older rows. A value that is not expired is the base. An expired value or
-- a tombstone hides the older base, and an operand leaves it.
abbrev pub base_or : Content → Bool → Option (List ℕ) → Option (List ℕ)
base_or (Value bytes) expired older = if expired then None else Some bytes
base_or (Merge bytes) expired older = older
base_or Tombstone expired older = None

-- The bytes of the newest row that is not an operand, if that row is a value and is not expired. Otherwise
-- it is None.
abbrev pub base : ℤ → List Row → Option (List ℕ)
base now [] = None
base now (r ∷ rows) = base_or r.content (is_expired r now) (base now rows)

-- The rows that a read at sequence `s` sees: the rows with a sequence of at most `s`.
abbrev pub seen_at : ℕ → List Row → List Row
seen_at s rows = filter (λ r. nat_le r.seq s) rows

-- A read at sequence `s` and moment `now` of one key's rows, newest first. It answers the fold of the
-- operands over the base, or None if there is neither an operand nor a base.
abbrev pub read : (merge : Operator) (key : List ℕ) (s : ℕ) (now : ℤ) (rows : List Row) → Option Outcome
read merge key s now rows = fold_bytes merge key (base now (seen_at s rows)) (operands now (seen_at s rows))
