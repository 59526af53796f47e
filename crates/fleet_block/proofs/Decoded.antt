-- The rows of a table are decoded from its bytes.
use Rattle.std.proofs.Common.{◌≡◌, refl, sym, ◌∙◌, ap, ℕ, ◌<◌, ◌≤◌, ◌-◌, ◌%◌, ◌/◌, ◌^◌, ℤ, pos, negsuc, List, [], ◌∷◌, ◌++◌, length, take, drop, map, arith}
use Rattle.std.specs.Prelude.{◌==◌, slice_index, Option, Some, None, is_some}
use Rattle.std.specs.Int.{w16, w32, w64, to_be_bytes, cast_signed, cast_unsigned}
use Rattle.std.specs.List.{AllByRecursion, flat_map}
use Rattle.std.proofs.lemmas.Int.{to_z-of_z}
use Rattle.std.proofs.lemmas.List.{append_assoc, drop_at, length-drop, map-id, take_at}
use Rattle.std.proofs.lemmas.Nat.{from_be_bytes-to_be_bytes_2, from_be_bytes-to_be_bytes_4, from_be_bytes-to_be_bytes_8}
use Rattle.row_model.specs.Bounds.{IsStampOrNone}
use Rattle.row_model.specs.Rows.{Row, Content, Value, Merge, Tombstone}
use Rattle.row_model.specs.Written.Sizes.{content_len}
use Rattle.row_model.specs.Written.TableBytes.{blocks_of_rows, content_bytes, content_flag, header_bytes, key_bytes, row_bytes, row_flags, rows_bytes, shared_len, stamp_bytes, IsWritable}
use Rattle.fleet_block.specs.Decoded.{block_in, blocks_in, content_in, decoded_rows, header_in, key_in, many_in, number_in, part_in, row_in, stamp_in, value_in}
use Rattle.fleet_block.specs.Finds.{IsBlock, joined_rows}
use Rattle.fleet_block.specs.Laws.{BytesAreDecoded}
use Rattle.fleet_block.proofs.Blocks.{count_short}
use Rattle.fleet_block.proofs.Cuts.{all_blocks, blocks_within, joined_blocks}
use Rattle.fleet_block.proofs.Fields.{after_created, after_expires, after_flags, after_key, after_seq, created_there, expires_there, kind_told, row_parts}
use Rattle.fleet_block.proofs.SharedKeys.{key_joined, shared_within}

-- ---- numbers and parts

number_16 : (n : ℕ) (others : List ℕ) → n < 2 ^ 16 → number_in w16 (to_be_bytes w16 n ++ others) ≡ (n, others)
number_16 n others fits = ap (λ m. (m, others)) (from_be_bytes-to_be_bytes_2 n fits)

number_32 : (n : ℕ) (others : List ℕ) → n < 2 ^ 32 → number_in w32 (to_be_bytes w32 n ++ others) ≡ (n, others)
number_32 n others fits = ap (λ m. (m, others)) (from_be_bytes-to_be_bytes_4 n fits)

number_64 : (n : ℕ) (others : List ℕ) → n < 2 ^ 64 → number_in w64 (to_be_bytes w64 n ++ others) ≡ (n, others)
number_64 n others fits = ap (λ m. (m, others)) (from_be_bytes-to_be_bytes_8 n fits)

part : (xs others : List ℕ) (n : ℕ) → length xs ≡ n → part_in n (xs ++ others) ≡ (xs, others)
part xs others n measured = λ i. (take_at xs others n measured i, drop_at xs others n measured i)

-- ---- the parts of a row

value : (v others : List ℕ) → length v < 2 ^ 32 → value_in (to_be_bytes w32 (length v) ++ v ++ others) ≡ (v, others)
value v others fits = ap (λ len. part_in len.0 len.1) (number_32 (length v) (v ++ others) fits) ∙ part v others (length v) refl

content : (x : Content) (others : List ℕ) → content_len x < 2 ^ 32 → content_in (content_flag x) (content_bytes x ++ others) ≡ (x, others)
content (Value v) others fits = ap (λ read. (Value read.0, read.1)) (value v others fits)
content (Merge v) others fits = ap (λ read. (Merge read.0, read.1)) (value v others fits)
content Tombstone others fits = refl

bits_fit : (s : ℤ) → IsStampOrNone (Some s) → cast_unsigned w64 s < 2 ^ 64
bits_fit (pos n) fits = omega arith
bits_fit (negsuc n) fits = omega arith

stamp_back : (s : ℤ) → IsStampOrNone (Some s) → cast_signed w64 (cast_unsigned w64 s) ≡ s
stamp_back (pos n) fits = to_z-of_z w64 (pos n) (record { sfits = omega arith })
stamp_back (negsuc n) fits = to_z-of_z w64 (negsuc n) (record { sfits = omega arith })

stamp : (s : Option ℤ) (others : List ℕ) → IsStampOrNone s → stamp_in (is_some s) (stamp_bytes s ++ others) ≡ (s, others)
stamp None others fits = refl
stamp (Some s) others fits =
    ap (λ number. (Some (cast_signed w64 number.0), number.1)) (number_64 (cast_unsigned w64 s) others (bits_fit s fits))
    ∙ ap (λ t. (Some t, others)) (stamp_back s fits)

-- A key that is written against the first key of its block is read back, with the bytes after it.
key : (first k others : List ℕ) → length k ≤ 65535 → key_in first (key_bytes (shared_len first k) k ++ others) ≡ (k, others)
key first k others fits =
    let within = shared_within first k in
    let rest : List ℕ = drop (shared_len first k) k in
    let len : ℕ = length k - shared_len first k in
    let shared_is = number_16 (shared_len first k) (to_be_bytes w16 len ++ rest ++ others) (omega (arith, within.1)) in
    let len_is = number_16 len (rest ++ others) (omega arith) in
    let left_is = part rest others len (length-drop (shared_len first k) k) in
    ap (λ shared. let len = number_in w16 shared.1 in let left = part_in len.0 len.1 in (take shared.0 first ++ left.0, left.1)) shared_is
    ∙ ap (λ len. let left = part_in len.0 len.1 in (take (shared_len first k) first ++ left.0, left.1)) len_is
    ∙ ap (λ left. (take (shared_len first k) first ++ left.0, left.1)) left_is
    ∙ ap (λ whole. (whole, others)) (key_joined first k)

-- ---- rows

-- A row that is written is read back, with the bytes after it.
row : (first : List ℕ) (r : Row) (others : List ℕ) → IsWritable r → row_in first (row_bytes first r ++ others) ≡ (r, others)
row first r others fits =
    let key_is = ap (key_in first) (row_parts first r others) ∙ key first r.key (after_key r others) fits.in_bounds.key in
    let seq_is = ap (λ read. number_in w64 read.1) key_is ∙ number_64 r.seq (after_seq r others) fits.seq in
    let created_is = ap (λ read. stamp_in (slice_index read.1 0 / 4 % 2 == 1) (drop 1 read.1)) seq_is
    ∙ ap (λ there. stamp_in there (after_flags r others)) (sym (created_there r (row_flags r) refl))
    ∙ stamp r.created (after_created r others) fits.created in
    let expires_is = (λ i. stamp_in (slice_index (seq_is i).1 0 / 8 % 2 == 1) (created_is i).1)
    ∙ ap (λ there. stamp_in there (after_created r others)) (sym (expires_there r (row_flags r) refl))
    ∙ stamp r.expires (after_expires r others) fits.expires in
    let content_is = (λ i. content_in (slice_index (seq_is i).1 0 % 4) (expires_is i).1)
    ∙ ap (λ kind. content_in kind (after_expires r others)) (kind_told r (row_flags r) refl)
    ∙ content r.content others fits.in_bounds.content in
    λ i. (record { key = (key_is i).0; content = (content_is i).0; seq = (seq_is i).0; created = (created_is i).0; expires = (expires_is i).0 }, (content_is i).1)

-- Values that are written one after another.
many : {A B : Type 0} (Fits : B → Type 0) (spelt : B → List ℕ) (of : B → A) (read : List ℕ → A × List ℕ)
    → ((x : B) (others : List ℕ) → Fits x → read (spelt x ++ others) ≡ (of x, others))
    → (xs : List B) (others : List ℕ) → AllByRecursion Fits xs → many_in read (length xs) (flat_map spelt xs ++ others) ≡ (map of xs, others)
many Fits spelt of read back [] others fits = refl
many Fits spelt of read back (x ∷ xs) others fits =
    let one = ap read (append_assoc (spelt x) (flat_map spelt xs) others) ∙ back x (flat_map spelt xs ++ others) fits.0 in
    let rest = ap (λ got. many_in read (length xs) got.1) one ∙ many Fits spelt of read back xs others fits.1 in
    λ i. ((one i).0 ∷ (rest i).0, (rest i).1)

later : (first : List ℕ) (rows : List Row) (others : List ℕ) → AllByRecursion IsWritable rows → many_in (row_in first) (length rows) (flat_map (row_bytes first) rows ++ others) ≡ (rows, others)
later first rows others fits = many IsWritable (row_bytes first) (λ r. r) (row_in first) (row first) rows others fits ∙ ap (λ rs. (rs, others)) (map-id rows)

block : (rows : List Row) (others : List ℕ) → AllByRecursion IsWritable rows → block_in (length rows) (rows_bytes rows ++ others) ≡ (rows, others)
block [] others fits = refl
block (r ∷ rows) others fits =
    let one = ap (row_in []) (append_assoc (row_bytes [] r) (flat_map (row_bytes r.key) rows) others) ∙ row [] r (flat_map (row_bytes r.key) rows ++ others) fits.0 in
    let rest = ap (λ got. many_in (row_in got.0.key) (length rows) got.1) one ∙ later r.key rows others fits.1 in
    λ i. ((one i).0 ∷ (rest i).0, (rest i).1)

-- ---- blocks

header : (rows : List Row) (others : List ℕ) → IsBlock rows → header_in (header_bytes rows ++ others) ≡ (length rows, others)
header rows others fits = ap (λ count. (count.0, drop 8 count.1)) (number_16 (length rows) (to_be_bytes w64 (length (rows_bytes rows)) ++ others) (count_short rows fits.short))

rows_of_blocks : (cut : List (List Row)) → AllByRecursion IsBlock cut → blocks_in (map length cut) (flat_map rows_bytes cut) ≡ joined_rows cut
rows_of_blocks [] fits = refl
rows_of_blocks (rows ∷ cut) fits =
    ap (λ read. read.0 ++ blocks_in (map length cut) read.1) (block rows (flat_map rows_bytes cut) fits.0.writable)
    ∙ ap (λ rest. rows ++ rest) (rows_of_blocks cut fits.1)

pub bytes_are_decoded : BytesAreDecoded
unfolding decoded_rows
bytes_are_decoded rows fits few =
    let cut : List (List Row) = blocks_of_rows 0 rows in
    let within = blocks_within 0 rows in
    let blocks_fit = all_blocks rows fits in
    ap (λ count. let counts = many_in header_in count.0 count.1 in blocks_in counts.0 counts.1) (number_64 (length cut) (flat_map header_bytes cut ++ flat_map rows_bytes cut) (omega (arith, within)))
    ∙ ap (λ counts. blocks_in counts.0 counts.1) (many IsBlock header_bytes length header_in header cut (flat_map rows_bytes cut) blocks_fit)
    ∙ rows_of_blocks cut blocks_fit
    ∙ joined_blocks 0 rows
