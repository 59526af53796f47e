-- The rows that stand in the bytes of a table. All functions are total: of bytes that are no table's they say
-- nothing of use. A reader gives the value that stands at the front of some bytes, and the bytes after it.
use Rattle.std.specs.Prelude.{ℕ, zero, suc, ◌%◌, ◌/◌, ◌==◌, Bool, true, false, if◌then◌else◌, ℤ, List, [], ◌∷◌, ◌++◌, take, drop, slice_index, Option, Some, None}
use Rattle.std.specs.Int.{Width, w16, w32, w64, byte_len, from_be_bytes, cast_signed}
use Rattle.row_model.specs.Rows.{Row, Content, Value, Merge, Tombstone}

abbrev pub number_in : Width → List ℕ → ℕ × List ℕ
number_in w bytes = (from_be_bytes w (take (byte_len w) bytes), drop (byte_len w) bytes)

-- So many bytes.
abbrev pub part_in : ℕ → List ℕ → List ℕ × List ℕ
part_in len bytes = (take len bytes, drop len bytes)

-- A value or an operand: its length, and its bytes.
abbrev pub value_in : List ℕ → List ℕ × List ℕ
value_in bytes = let len = number_in w32 bytes in part_in len.0 len.1

-- A key: how many bytes it shares with the first key of its block, how many are left, and these.
abbrev pub key_in : (first bytes : List ℕ) → List ℕ × List ℕ
key_in first bytes =
    let shared = number_in w16 bytes in
    let len = number_in w16 shared.1 in
    let left = part_in len.0 len.1 in
    (take shared.0 first ++ left.0, left.1)

-- A stamp, if it is there.
abbrev pub stamp_in : Bool → List ℕ → Option ℤ × List ℕ
stamp_in false bytes = (None, bytes)
stamp_in true bytes = let number = number_in w64 bytes in (Some (cast_signed w64 number.0), number.1)

-- The content of a row, of the kind that the lower two flags tell.
abbrev pub content_in : ℕ → List ℕ → Content × List ℕ
content_in kind bytes =
    let value = value_in bytes in
    if kind == 1 then (Tombstone, bytes) else (if kind == 2 then Merge value.0 else Value value.0, value.1)

-- A row of a block with this first key.
abbrev pub row_in : (first bytes : List ℕ) → Row × List ℕ
row_in first bytes =
    let key = key_in first bytes in
    let seq = number_in w64 key.1 in
    let flags = slice_index seq.1 0 in
    let created = stamp_in (flags / 4 % 2 == 1) (drop 1 seq.1) in
    let expires = stamp_in (flags / 8 % 2 == 1) created.1 in
    let content = content_in (flags % 4) expires.1 in
    (record { key = key.0; content = content.0; seq = seq.0; created = created.0; expires = expires.0 }, content.1)

-- So many values, one after another, each of which `read` reads.
abbrev pub many_in : {A : Type 0} → (List ℕ → A × List ℕ) → ℕ → List ℕ → List A × List ℕ
many_in read zero bytes = ([], bytes)
many_in read (suc n) bytes =
    let one = read bytes in
    let others = many_in read n one.1 in
    (one.0 ∷ others.0, others.1)

-- The rows of a block, of which there are so many. The first row was written after the empty key.
abbrev pub block_in : ℕ → List ℕ → List Row × List ℕ
block_in zero bytes = ([], bytes)
block_in (suc n) bytes =
    let row = row_in [] bytes in
    let others = many_in (row_in row.0.key) n row.1 in
    (row.0 ∷ others.0, others.1)

-- The header of a block: how many rows it has. In how many bytes they stand is passed over.
abbrev pub header_in : List ℕ → ℕ × List ℕ
header_in bytes = let count = number_in w16 bytes in (count.0, drop 8 count.1)

-- The rows of blocks that have so many rows each.
abbrev pub blocks_in : (counts bytes : List ℕ) → List Row
blocks_in [] bytes = []
blocks_in (count ∷ counts) bytes = let block = block_in count bytes in block.0 ++ blocks_in counts block.1

-- The rows of a table with these bytes: the number of blocks, then the headers, then the rows of each block.
unfoldable pub decoded_rows : List ℕ → List Row
decoded_rows bytes =
    let count = number_in w64 bytes in
    let counts = many_in header_in count.0 count.1 in
    blocks_in counts.0 counts.1
