-- Reading blocks one after another.
use Rattle.std.proofs.Common.{◌≡◌, sym, ◌∙◌, ap, subst, ℕ, ◌<◌, ◌≤◌, ◌+◌, ◌^◌, List, [], ◌∷◌, ◌++◌, length, drop, arith}
use Rattle.std.specs.Prelude.{Option, Some, None}
use Rattle.std.specs.Int.{w16, w64, to_be_bytes}
use Rattle.std.specs.List.{flat_map}
use Rattle.std.proofs.lemmas.List.{append_assoc, append-nil, length-append, length-drop}
use Rattle.row_model.specs.Rows.{Row}
use Rattle.row_model.specs.Written.TableBytes.{header_bytes, rows_bytes}
use Rattle.fleet_block.specs.Finds.{AreRows, Finds, FindsBlocks, IsFound, joined_rows}
use Rattle.fleet_block.proofs.Later.{Rows, view}

-- The number of rows of a block fits 16 bits.
pub count_short : (b : List Row) → length b ≤ 512 → length b < 2 ^ 16
count_short b h = omega arith

-- The bytes of a block are no more than all bytes.
len_within : (b : List Row) (cut : List (List Row)) (others bytes : List ℕ) (place : ℕ) → drop place bytes ≡ flat_map rows_bytes (b ∷ cut) ++ others → length (rows_bytes b) ≤ length bytes
len_within b cut others bytes place e =
    let all = ap length e in
    let parts = length-append (flat_map rows_bytes (b ∷ cut)) others in
    let first = length-append (rows_bytes b) (flat_map rows_bytes cut) in
    omega (arith, all, parts, first, length-drop place bytes)

module _ {V : Type 0} (of : V → List Row) (bytes : List ℕ) (header place : ℕ) (before : List Row) where
  pub blocks_ended : (left : ℕ) → left ≡ 0 → (v : V) → of v ≡ before → FindsBlocks of left before bytes header place (Some (v, place))
  blocks_ended left none v is [] after others fits h e = (is ∙ sym (append-nil before), e)
  blocks_ended left none v is (b ∷ cut) after others fits h e = let counted = fits.counted in absurd (omega arith)

  -- No header is written where the next one must be.
  pub count_stopped : (left : ℕ) → 0 < left → Finds (λ n. n) (to_be_bytes w16) (λ n. n < 2 ^ 16) bytes header None → FindsBlocks of left before bytes header place None
  count_stopped left some finds [] after others fits h e = let counted = fits.counted in absurd (omega arith)
  count_stopped left some finds (b ∷ cut) after others fits h e =
      finds (length b) (to_be_bytes w64 (length (rows_bytes b)) ++ (flat_map header_bytes cut ++ after)) (count_short b fits.blocks.0.short) h

  module _ (count middle : ℕ) (counts : Finds (λ n. n) (to_be_bytes w16) (λ n. n < 2 ^ 16) bytes header (Some (count, middle))) where
    len_fits : (b : List Row) (cut : List (List Row)) (others : List ℕ) → length bytes < 2 ^ 64 → drop place bytes ≡ flat_map rows_bytes (b ∷ cut) ++ others → length (rows_bytes b) < 2 ^ 64
    len_fits b cut others small e = let within = len_within b cut others bytes place e in omega (arith, within)

    pub len_stopped : (left : ℕ) → 0 < left → length bytes < 2 ^ 64 → Finds (λ n. n) (to_be_bytes w64) (λ n. n < 2 ^ 64) bytes middle None → FindsBlocks of left before bytes header place None
    len_stopped left some small finds [] after others fits h e = let counted = fits.counted in absurd (omega arith)
    len_stopped left some small finds (b ∷ cut) after others fits h e =
        let one = counts (length b) (to_be_bytes w64 (length (rows_bytes b)) ++ (flat_map header_bytes cut ++ after)) (count_short b fits.blocks.0.short) h in
        finds (length (rows_bytes b)) (flat_map header_bytes cut ++ after) (len_fits b cut others small e) one.1

    pub many_stopped : (left : ℕ) → 0 < left → 512 < count → FindsBlocks of left before bytes header place None
    many_stopped left some many [] after others fits h e = let counted = fits.counted in absurd (omega arith)
    many_stopped left some many (b ∷ cut) after others fits h e =
        let one = counts (length b) (to_be_bytes w64 (length (rows_bytes b)) ++ (flat_map header_bytes cut ++ after)) (count_short b fits.blocks.0.short) h in
        let short = fits.blocks.0.short in
        absurd (omega (arith, one.0, short))

    module _ (len next_header : ℕ) (lens : Finds (λ n. n) (to_be_bytes w64) (λ n. n < 2 ^ 64) bytes middle (Some (len, next_header))) where
      pub rows_stopped : (left : ℕ) → 0 < left → (found : Option (Rows × ℕ)) → found ≡ None → Finds view rows_bytes (AreRows 0 count) bytes place found → FindsBlocks of left before bytes header place None
      rows_stopped left some found is finds [] after others fits h e = let counted = fits.counted in absurd (omega arith)
      rows_stopped left some found is finds (b ∷ cut) after others fits h e =
          let one = counts (length b) (to_be_bytes w64 (length (rows_bytes b)) ++ (flat_map header_bytes cut ++ after)) (count_short b fits.blocks.0.short) h in
          subst (IsFound view b (flat_map rows_bytes cut ++ others) bytes) is
          (finds b (flat_map rows_bytes cut ++ others) (record { writable = fits.blocks.0.writable; begun = fits.blocks.0.begun; counted = sym one.0 }) (e ∙ append_assoc (rows_bytes b) (flat_map rows_bytes cut) others))

      -- The next block was read, so the others may be read after it.
      pub blocks_onward : (left less : ℕ) → left ≡ less + 1 → length bytes < 2 ^ 64 → (found : Option (Rows × ℕ)) (block : Rows) (next : ℕ) → found ≡ Some (block, next) → Finds view rows_bytes (AreRows 0 count) bytes place found
          → (more : List Row) → more ≡ before ++ view block → (all : Option (V × ℕ)) → FindsBlocks of less more bytes next_header next all → FindsBlocks of left before bytes header place all
      blocks_onward left less is_one small found block next is finds more pushed all rest [] after others fits h e = let counted = fits.counted in absurd (omega arith)
      blocks_onward left less is_one small found block next is finds more pushed all rest (b ∷ cut) after others fits h e =
          let counted = fits.counted in
          let one = counts (length b) (to_be_bytes w64 (length (rows_bytes b)) ++ (flat_map header_bytes cut ++ after)) (count_short b fits.blocks.0.short) h in
          let two = lens (length (rows_bytes b)) (flat_map header_bytes cut ++ after) (len_fits b cut others small e) one.1 in
          let here = subst (IsFound view b (flat_map rows_bytes cut ++ others) bytes) is
          (finds b (flat_map rows_bytes cut ++ others) (record { writable = fits.blocks.0.writable; begun = fits.blocks.0.begun; counted = sym one.0 }) (e ∙ append_assoc (rows_bytes b) (flat_map rows_bytes cut) others)) in
          let there = rest cut after others (record { blocks = fits.blocks.1; counted = omega arith }) two.1 here.1 in
          subst (λ (rs : List Row). IsFound of rs others bytes all)
          (ap (λ xs. xs ++ joined_rows cut) (pushed ∙ ap (λ x. before ++ x) here.0) ∙ append_assoc before b (joined_rows cut))
          there
