-- Laws on the bytes of rows and tables, and on the blocks that rows are cut into.
use Rattle.std.specs.Prelude.{◌≡◌, ◌≢◌, ℕ, ◌+◌, ◌<◌, ◌^◌, List, [], ◌∷◌, length, sum_by, ◌*◌, ◌++◌, drop}
use Rattle.std.specs.List.{AllByRecursion, flat_map}
use Rattle.row_model.specs.Rows.{Row}
use Rattle.row_model.specs.Written.Sizes.{Block, blocks, encoded_size, estimated_size, saturated_sum}
use Rattle.row_model.specs.Written.TableBytes.{blocks_of_rows, bytes_of_blocks, row_bytes, rows_bytes, shared_len, table_bytes, IsWritable}
use Rattle.fleet_block.specs.Decoded.{decoded_rows}
use Rattle.fleet_block.specs.Finds.{joined_rows}

-- A row is written in as many bytes as its size says.
abbrev pub RowsHaveEncodedSizes : Type 0
RowsHaveEncodedSizes = (first : List ℕ) (r : Row) → length (row_bytes first r) ≡ encoded_size r (shared_len first r.key)

-- The rows that stand in the bytes of a table are the rows that the table has.
abbrev pub BytesAreDecoded : Type 0
BytesAreDecoded = (rows : List Row) → AllByRecursion IsWritable rows → length rows < 2 ^ 64
    → decoded_rows (table_bytes rows) ≡ rows

-- Lists of rows with the same bytes are equal.
abbrev pub BytesTellRows : Type 0
BytesTellRows = (rows others : List Row) → AllByRecursion IsWritable rows → AllByRecursion IsWritable others
    → length rows < 2 ^ 64 → length others < 2 ^ 64 → table_bytes rows ≡ table_bytes others → rows ≡ others

-- The index of some blocks, the first of which begins at this offset. No block is empty.
abbrev pub index_from : ℕ → List (List Row) → List Block
index_from offset [] = []
index_from offset ([] ∷ cut) = index_from offset cut
index_from offset ((r ∷ rows) ∷ cut) = record { first_key = r.key; offset = offset }
    ∷ index_from (saturated_sum (offset + sum_by estimated_size (r ∷ rows))) cut

-- The blocks of rows have all rows, in order, no block is empty, and their index is that of the rows.
pub record AreTheBlocks (rows : List Row) : Type 0 where
  pub all : joined_rows (blocks_of_rows 0 rows) ≡ rows
  pub filled : AllByRecursion (λ block. block ≢ []) (blocks_of_rows 0 rows)
  pub index : index_from 0 (blocks_of_rows 0 rows) ≡ blocks rows

abbrev pub RowsAreCutIntoBlocks : Type 0
RowsAreCutIntoBlocks = (rows : List Row) → AreTheBlocks rows

-- Where the rows of blocks begin: after the number of blocks and a header of ten bytes for each block.
abbrev pub rows_place : List (List Row) → ℕ
rows_place cut = 8 + 10 * length cut

-- The rows of a block stand after those of the blocks before it.
abbrev pub BlocksStandInBytes : Type 0
BlocksStandInBytes = (before after : List (List Row)) (block : List Row)
    → let cut = before ++ block ∷ after
    in drop (rows_place cut + length (flat_map rows_bytes before)) (bytes_of_blocks cut)
    ≡ rows_bytes block ++ flat_map rows_bytes after
