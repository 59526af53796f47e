-- Tables written as bytes. Rows stand in blocks. A key is written without the bytes that it shares with the
-- first key of its block. All numbers are big-endian.
use Rattle.std.specs.Prelude.{◌≢◌, ℕ, ◌+◌, ◌-◌, ◌^◌, ◌<◌, ◌==◌, nat_le, ℤ, List, [], ◌∷◌, ◌++◌, length, drop, Option, Some, None}
use Rattle.std.specs.Int.{w16, w32, w64, to_be_bytes, cast_unsigned}
use Rattle.std.specs.List.{AllByRecursion, common_prefix_len, flat_map}
use Rattle.row_model.specs.Bounds.{IsInBounds, IsStampOrNone}
use Rattle.row_model.specs.Rows.{Row, Content, Value, Merge, Tombstone, IsStrictlyOrdered}
use Rattle.row_model.specs.Written.Sizes.{block_bytes, estimated_size, or_full}
use Rattle.row_model.specs.Written.Tables.{with_row}

-- The length of the longest prefix that two keys have in common.
abbrev pub shared_len : (first key : List ℕ) → ℕ
shared_len first key = common_prefix_len (λ a b. a == b) first key

-- The key of a row: how many bytes it shares with the first key, how many are left, and these.
abbrev pub key_bytes : ℕ → List ℕ → List ℕ
key_bytes shared key = to_be_bytes w16 shared ++ to_be_bytes w16 (length key - shared) ++ drop shared key

abbrev pub content_flag : Content → ℕ
content_flag (Value bytes) = 0
content_flag (Merge bytes) = 2
content_flag Tombstone = 1

-- The flag, if the stamp is there.
abbrev pub stamp_flag : ℕ → Option ℤ → ℕ
stamp_flag flag None = 0
stamp_flag flag (Some stamp) = flag

abbrev pub row_flags : Row → ℕ
row_flags r = content_flag r.content + stamp_flag 4 r.created + stamp_flag 8 r.expires

abbrev pub stamp_bytes : Option ℤ → List ℕ
stamp_bytes None = []
stamp_bytes (Some stamp) = to_be_bytes w64 (cast_unsigned w64 stamp)

abbrev pub content_bytes : Content → List ℕ
content_bytes (Value bytes) = to_be_bytes w32 (length bytes) ++ bytes
content_bytes (Merge bytes) = to_be_bytes w32 (length bytes) ++ bytes
content_bytes Tombstone = []

-- What follows the key of a row.
abbrev pub fields_bytes : Row → List ℕ
fields_bytes r =
    to_be_bytes w64 r.seq ++ row_flags r ∷ [] ++ stamp_bytes r.created ++ stamp_bytes r.expires
    ++ content_bytes r.content

-- A row in a block with this first key. The block's first row itself is written after the empty key, so it
-- shares nothing.
abbrev pub row_bytes : List ℕ → Row → List ℕ
row_bytes first r = key_bytes (shared_len first r.key) r.key ++ fields_bytes r

-- The rows of a block.
abbrev pub rows_bytes : List Row → List ℕ
rows_bytes [] = []
rows_bytes (r ∷ rows) = row_bytes [] r ++ flat_map (row_bytes r.key) rows

-- What is written of a block in front of all rows: how many rows it has, and in how many bytes they stand.
abbrev pub header_bytes : List Row → List ℕ
header_bytes rows = to_be_bytes w16 (length rows) ++ to_be_bytes w64 (length (rows_bytes rows))

-- Cuts rows into blocks. A block ends with the row with which it reaches block_bytes. The first block
-- already has `filled` bytes.
abbrev pub blocks_of_rows : ℕ → List Row → List (List Row)
blocks_of_rows filled [] = []
blocks_of_rows filled (r ∷ rows) =
    with_row (nat_le block_bytes (filled + estimated_size r)) r
    (blocks_of_rows (or_full (filled + estimated_size r)) rows)

-- The number of blocks, then a header of each block, then the rows of each block.
abbrev pub bytes_of_blocks : List (List Row) → List ℕ
bytes_of_blocks cut = to_be_bytes w64 (length cut) ++ flat_map header_bytes cut ++ flat_map rows_bytes cut

abbrev pub table_bytes : List Row → List ℕ
table_bytes rows = bytes_of_blocks (blocks_of_rows 0 rows)

-- The numbers and lengths of a row fit their places.
pub record IsWritable (r : Row) : Type 0 where
  pub in_bounds : IsInBounds r
  pub seq : r.seq < 2 ^ 64
  pub created : IsStampOrNone r.created
  pub expires : IsStampOrNone r.expires

-- Rows that a table takes.
pub record IsTaken (rows : List Row) : Type 0 where
  pub some : rows ≢ []
  pub ordered : IsStrictlyOrdered rows
  pub writable : AllByRecursion IsWritable rows
