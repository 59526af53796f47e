-- The first block of some rows.
use Rattle.std.specs.Prelude.{ℕ, ◌+◌, nat_le, if◌then◌else◌, List, [], ◌∷◌}
use Rattle.row_model.specs.Rows.{Row}
use Rattle.row_model.specs.Written.Sizes.{block_bytes, estimated_size}

-- How many of the rows belong to the open block, which already has `filled` bytes.
abbrev pub first_block_len : ℕ → List Row → ℕ
first_block_len filled [] = 0
first_block_len filled (r ∷ rows) = if nat_le block_bytes (filled + estimated_size r) then 1
    else 1 + first_block_len (filled + estimated_size r) rows
