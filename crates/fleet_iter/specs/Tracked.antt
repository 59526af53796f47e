-- The bytes of rows, and counts of them.
use Rattle.std.specs.Prelude.{ℕ, ◌+◌, Bool, List, [], ◌∷◌, length, if◌then◌else◌}
use Rattle.row_model.specs.Rows.{Row}
use Rattle.row_model.specs.Written.Sizes.{content_len, saturated_sum}
use Rattle.fleet_iter.specs.Merge.{hides}

abbrev pub row_bytes : Row → ℕ
row_bytes r = saturated_sum (length r.key + content_len r.content)

-- A count of bytes after further rows. It stops at 2^64 - 1.
abbrev pub counted_bytes : ℕ → List Row → ℕ
counted_bytes n [] = n
counted_bytes n (r ∷ rows) = counted_bytes (saturated_sum (n + row_bytes r)) rows

abbrev pub first_bytes : List Row → ℕ
first_bytes [] = 0
first_bytes (r ∷ rows) = row_bytes r

-- The rows that a row hides, up to the first one that it does not hide.
abbrev pub kept_back : Row → List Row → List Row
kept_back r [] = []
kept_back r (q ∷ rows) = if hides r q then q ∷ kept_back r rows else []

-- The rows that one `next` of a merge takes: the first row, and with dedup the rows that it hides.
abbrev pub taken_at_once : Bool → List Row → List Row
taken_at_once dedup [] = []
taken_at_once dedup (r ∷ rows) = r ∷ (if dedup then kept_back r rows else [])
