-- A read of one key, row by row.
use Rattle.std.specs.Prelude.{◌≡◌, ℕ, ℤ, Bool, if◌then◌else◌, List, ◌∷◌, ◌++◌, Option}
use Rattle.row_model.specs.Rows.{Row}
use Rattle.row_model.specs.Read.{base, operands, seen_at}

-- A read of a key at a sequence and a moment, and what the rows that it took leave: whether one of them hides all
-- older rows, the value under the operands, and the operands, oldest first.
pub record KeyReading : Type 0 where
  pub key : List ℕ
  pub seq : ℕ
  pub moment : ℤ
  pub hides : Bool
  pub base : Option (List ℕ)
  pub operands : List (List ℕ)

-- The base and the operands that the read finds in the rows that it took and in these older rows of the key.
abbrev pub found_with : KeyReading → List Row → Option (List ℕ) × List (List ℕ)
found_with r older =
    if r.hides then (r.base, r.operands)
    else (base r.moment (seen_at r.seq older), operands r.moment (seen_at r.seq older) ++ r.operands)

-- The read took these rows of the key, newest first, or it took some of them and they hide the others.
pub record TakesRows (old : KeyReading) (rows : List Row) (new : KeyReading) : Type 0 where
  pub key : new.key ≡ old.key
  pub seq : new.seq ≡ old.seq
  pub moment : new.moment ≡ old.moment
  pub found : (older : List Row) → found_with new older ≡ found_with old (rows ++ older)
