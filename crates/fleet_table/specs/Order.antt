-- Where a row lies among ordered rows.
use Rattle.std.specs.Prelude.{ℕ, Bool, not, List}
use Rattle.std.specs.Ordering.{nat_cmp, ordering_then, is_lt}
use Rattle.row_model.specs.Ranges.{Range, is_after_start, is_before_end}
use Rattle.row_model.specs.Rows.{Row, key_cmp}

-- The row comes before every row of this key with a sequence of at most `seq`.
abbrev pub is_before : List ℕ → ℕ → Row → Bool
is_before key seq r = is_lt (ordering_then (key_cmp r.key key) (nat_cmp seq r.seq))

-- The row's key is before the start of the range.
abbrev pub is_before_range : Range → Row → Bool
is_before_range range r = not (is_after_start range.from r.key)

-- The row's key is not after the end of the range.
abbrev pub is_not_after_range : Range → Row → Bool
is_not_after_range range r = is_before_end range.to r.key
