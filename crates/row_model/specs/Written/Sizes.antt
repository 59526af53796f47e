-- Sizes of rows and tables in bytes, and the blocks that a table is cut into.
use Rattle.std.specs.Prelude.{ℕ, ◌+◌, nat_le, ◌==◌, if◌then◌else◌, ℤ, List, [], ◌∷◌, length, sum_by, Option, Some, None, ◌-◌, ◌^◌, min}
use Rattle.row_model.specs.Rows.{Content, Value, Merge, Tombstone, Row}

abbrev pub content_len : Content → ℕ
content_len (Value bytes) = length bytes
content_len (Merge bytes) = length bytes
content_len Tombstone = 0

abbrev pub stamp_size : Option ℤ → ℕ
stamp_size None = 0
stamp_size (Some stamp) = 8

-- The size of a row in bytes by which tables and blocks are cut.
abbrev pub estimated_size : Row → ℕ
estimated_size r = length r.key + content_len r.content + 8 + stamp_size r.created + stamp_size r.expires

abbrev pub written_value_size : Content → ℕ
written_value_size (Value bytes) = 4 + length bytes
written_value_size (Merge bytes) = 4 + length bytes
written_value_size Tombstone = 0

-- The number of bytes in which a row is written if its key shares `prefix` bytes with an earlier key.
abbrev pub encoded_size : Row → ℕ → ℕ
encoded_size r prefix =
    13 + (length r.key - prefix) + stamp_size r.created + stamp_size r.expires + written_value_size r.content

-- A sum of sizes, or the greatest unsigned 64-bit number if the sum is greater.
abbrev pub saturated_sum : ℕ → ℕ
saturated_sum size = min size (2 ^ 64 - 1)

abbrev pub table_size : List Row → ℕ
table_size rows = saturated_sum (sum_by estimated_size rows)

abbrev pub block_bytes : ℕ
block_bytes = 4096

-- A block has a first key and an offset. The offset is the size of the rows before the block.
pub record Block : Type 0 where
  pub first_key : List ℕ
  pub offset : ℕ  -- in bytes

-- The bytes in the open block after a row. A block ends with the row with which it reaches block_bytes, and
-- the next block begins empty.
abbrev pub or_full : ℕ → ℕ
or_full filled = if nat_le block_bytes filled then 0 else filled

-- Opens a block at a row if the open block is empty. The later blocks follow.
abbrev pub block_at : (offset filled : ℕ) (r : Row) (later : List Block) → List Block
block_at offset filled r later = if filled == 0 then record { first_key = r.key; offset = offset } ∷ later else later

abbrev pub blocks_from : (offset filled : ℕ) (rows : List Row) → List Block
blocks_from offset filled [] = []
blocks_from offset filled (r ∷ rows) =
    block_at offset filled r
    (blocks_from (saturated_sum (offset + estimated_size r)) (or_full (filled + estimated_size r)) rows)

abbrev pub blocks : List Row → List Block
blocks rows = blocks_from 0 0 rows
