-- Cutting rows into blocks, one block at a time.
use Rattle.std.proofs.Common.{◌≡◌, ◌≢◌, refl, sym, ◌∙◌, ap, subst, ℕ, suc, ◌<◌, ◌≤◌, ◌+◌, ◌*◌, List, [], ◌∷◌, ◌++◌, length, take, drop, Bool, true, false, cond, arith}
use Rattle.std.specs.Prelude.{nat_le, ⊤}
use Rattle.std.specs.List.{AllByRecursion, flat_map}
use Rattle.std.proofs.lemmas.List.{append_assoc, map-append, take-append-drop, take-map, drop-map}
use Rattle.row_model.specs.Bounds.{IsInBounds}
use Rattle.row_model.specs.Rows.{Row}
use Rattle.row_model.specs.Written.Sizes.{block_bytes, estimated_size, or_full}
use Rattle.row_model.specs.Written.Tables.{with_row}
use Rattle.row_model.specs.Written.TableBytes.{blocks_of_rows, IsWritable}
use Rattle.fleet_rows.specs.declared.row.RowEntry.{RowEntry}
use Rattle.fleet_rows.specs.Row.{row_of, rows_of}
use Rattle.fleet_block.specs.Cuts.{first_block_len}
use Rattle.fleet_block.specs.Finds.{BeginOpen, IsBlock, joined_rows}

not_full : (n : ℕ) → nat_le block_bytes n ≡ false → n < 4096
not_full n e = grind arith

pub first_within : (filled : ℕ) (rows : List Row) → first_block_len filled rows ≤ length rows
first_within filled [] = omega arith
first_within filled (r ∷ rows) = by (nat_le block_bytes (filled + estimated_size r)) (first_within (filled + estimated_size r) rows)
  where
    by : (b : Bool) → first_block_len (filled + estimated_size r) rows ≤ length rows → cond b 1 (1 + first_block_len (filled + estimated_size r) rows) ≤ length (r ∷ rows)
    by true h = omega arith
    by false h = omega arith

pub first_some : (filled : ℕ) (rows : List Row) → rows ≢ [] → 0 < first_block_len filled rows
first_some filled [] some = absurd (some refl)
first_some filled (r ∷ rows) some = by (nat_le block_bytes (filled + estimated_size r))
  where
    by : (b : Bool) → 0 < cond b 1 (1 + first_block_len (filled + estimated_size r) rows)
    by true = omega arith
    by false = omega arith

first_bounded : (filled : ℕ) (rows : List Row) → filled < 4096 → 8 * first_block_len filled rows + filled < 4104
first_bounded filled [] below = omega arith
first_bounded filled (r ∷ rows) below = by (nat_le block_bytes (filled + estimated_size r)) refl (first_bounded (filled + estimated_size r) rows)
  where
    by : (b : Bool) → nat_le block_bytes (filled + estimated_size r) ≡ b
        → (filled + estimated_size r < 4096 → 8 * first_block_len (filled + estimated_size r) rows + (filled + estimated_size r) < 4104)
        → 8 * cond b 1 (1 + first_block_len (filled + estimated_size r) rows) + filled < 4104
    by true e rest = omega arith
    by false e rest = let bound = rest (not_full (filled + estimated_size r) e) in omega (arith, bound)

-- A block has fewer than 2^16 rows.
pub first_short : (rows : List Row) → first_block_len 0 rows < 65536
first_short rows = let bound = first_bounded 0 rows (omega arith) in omega (arith, bound)

pub blocks_within : (filled : ℕ) (rows : List Row) → length (blocks_of_rows filled rows) ≤ length rows
blocks_within filled [] = omega arith
blocks_within filled (r ∷ rows) = let rest = blocks_within (or_full (filled + estimated_size r)) rows in by (nat_le block_bytes (filled + estimated_size r)) (blocks_of_rows (or_full (filled + estimated_size r)) rows) rest
  where
    by : (b : Bool) (later : List (List Row)) → length later ≤ length rows → length (with_row b r later) ≤ length (r ∷ rows)
    by true later h = omega arith
    by false [] h = omega arith
    by false (block ∷ later) h = omega arith

-- A row that does not end its block goes before the rows of the block that the next row opens.
onto_next : (size : ℕ) (r : Row) (later : List Row) (n m : ℕ) → n ≡ 1 + m → m ≡ first_block_len size later
    → (later ≢ [] → blocks_of_rows size later ≡ take m later ∷ blocks_of_rows 0 (drop m later))
    → with_row false r (blocks_of_rows size later) ≡ take n (r ∷ later) ∷ blocks_of_rows 0 (drop n (r ∷ later))
onto_next size r [] n m at here rest =
    let one : 1 ≡ n = omega (arith, at, here) in
    ap (λ k. take k (r ∷ []) ∷ blocks_of_rows 0 (drop k (r ∷ []))) one
onto_next size r (q ∷ more) n m at here rest =
    let one : suc m ≡ n = omega (arith, at) in
    ap (with_row false r) (rest (λ e. cc e))
    ∙ ap (λ k. take k (r ∷ q ∷ more) ∷ blocks_of_rows 0 (drop k (r ∷ q ∷ more))) one

-- The first block is cut off, and the rows after it are cut from its end on.
cut_at_first : (filled : ℕ) (rows : List Row) (n : ℕ) → rows ≢ [] → n ≡ first_block_len filled rows → blocks_of_rows filled rows ≡ take n rows ∷ blocks_of_rows 0 (drop n rows)
cut_at_first filled [] n some is = absurd (some refl)
cut_at_first filled (r ∷ rows) n some is = by (nat_le block_bytes (filled + estimated_size r)) is (λ more. cut_at_first (filled + estimated_size r) rows (first_block_len (filled + estimated_size r) rows) more refl)
  where
    by : (b : Bool) → n ≡ cond b 1 (1 + first_block_len (filled + estimated_size r) rows)
        → (rows ≢ [] → blocks_of_rows (filled + estimated_size r) rows ≡ take (first_block_len (filled + estimated_size r) rows) rows ∷ blocks_of_rows 0 (drop (first_block_len (filled + estimated_size r) rows) rows))
        → with_row b r (blocks_of_rows (cond b 0 (filled + estimated_size r)) rows) ≡ take n (r ∷ rows) ∷ blocks_of_rows 0 (drop n (r ∷ rows))
    by true e rest = ap (λ k. take k (r ∷ rows) ∷ blocks_of_rows 0 (drop k (r ∷ rows))) (sym e)
    by false e rest = onto_next (filled + estimated_size r) r rows n (first_block_len (filled + estimated_size r) rows) e refl rest

pub mapped_some : (rows : List RowEntry) → rows ≢ [] → rows_of rows ≢ []
mapped_some [] some = absurd (some refl)
mapped_some (r ∷ rows) some = λ e. cc e

pub cut_once : (rest block later : List RowEntry) (n : ℕ) → rest ≢ [] → n ≡ first_block_len 0 (rows_of rest) → block ≡ take n rest → later ≡ drop n rest
    → blocks_of_rows 0 (rows_of rest) ≡ rows_of block ∷ blocks_of_rows 0 (rows_of later)
cut_once rest block later n some is front back =
    cut_at_first 0 (rows_of rest) n (mapped_some rest some) is
    ∙ ap (λ xs. xs ∷ blocks_of_rows 0 (drop n (rows_of rest))) (take-map row_of n rest ∙ ap rows_of (sym front))
    ∙ ap (λ xs. rows_of block ∷ blocks_of_rows 0 xs) (drop-map row_of n rest ∙ ap rows_of (sym back))

pub not_empty : (rows : List RowEntry) → 0 < length rows → rows ≢ []
not_empty [] some = absurd (omega arith)
not_empty (r ∷ rows) some = λ e. cc e

pub filled_some : (rows : List RowEntry) → rows ≢ [] → 0 < length rows
filled_some [] some = absurd (some refl)
filled_some (r ∷ rows) some = omega arith

pub blocks_some : (rows : List Row) → rows ≢ [] → 0 < length (blocks_of_rows 0 rows)
blocks_some rows some = let cut = ap length (cut_at_first 0 rows (first_block_len 0 rows) some refl) in omega (arith, cut)

-- The rows of the first block and the rows after it are all rows.
pub split_whole : (rest block later : List RowEntry) (n : ℕ) → block ≡ take n rest → later ≡ drop n rest → rest ≡ block ++ later
split_whole rest block later n front back = sym (ap (λ xs. xs ++ later) front ∙ ap (λ ys. take n rest ++ ys) back ∙ take-append-drop n rest)

all_front : {A : Type 0} (P : A → Type 0) (xs ys : List A) → AllByRecursion P (xs ++ ys) → AllByRecursion P xs
all_front P [] ys h = tt
all_front P (x ∷ xs) ys h = (h.0, all_front P xs ys h.1)

all_back : {A : Type 0} (P : A → Type 0) (xs ys : List A) → AllByRecursion P (xs ++ ys) → AllByRecursion P ys
all_back P [] ys h = h
all_back P (x ∷ xs) ys h = all_back P xs ys h.1

rows_of_both : (rest block later : List RowEntry) → rest ≡ block ++ later → rows_of rest ≡ rows_of block ++ rows_of later
rows_of_both rest block later both = ap rows_of both ∙ map-append row_of block later

pub front_in_bounds : (rest block later : List RowEntry) → rest ≡ block ++ later → AllByRecursion IsInBounds (rows_of rest) → AllByRecursion IsInBounds (rows_of block)
front_in_bounds rest block later both h = all_front IsInBounds (rows_of block) (rows_of later) (subst (AllByRecursion IsInBounds) (rows_of_both rest block later both) h)

pub back_in_bounds : (rest block later : List RowEntry) → rest ≡ block ++ later → AllByRecursion IsInBounds (rows_of rest) → AllByRecursion IsInBounds (rows_of later)
back_in_bounds rest block later both h = all_back IsInBounds (rows_of block) (rows_of later) (subst (AllByRecursion IsInBounds) (rows_of_both rest block later both) h)

-- What was written of the earlier blocks, and what will be written of the others, is what is written of all
-- blocks, also once the next block was written.
pub onward : (spelt : List Row → List ℕ) (so_far more : List ℕ) (block : List Row) (left later all : List (List Row))
    → left ≡ block ∷ later → so_far ++ flat_map spelt left ≡ flat_map spelt all → more ≡ so_far ++ spelt block → more ++ flat_map spelt later ≡ flat_map spelt all
onward spelt so_far more block left later all cut before wrote =
    ap (λ xs. xs ++ flat_map spelt later) wrote
    ∙ append_assoc so_far (spelt block) (flat_map spelt later)
    ∙ ap (λ xs. so_far ++ flat_map spelt xs) (sym cut)
    ∙ before

-- ---- all blocks

joined_with : (full : Bool) (r : Row) (cut : List (List Row)) → joined_rows (with_row full r cut) ≡ r ∷ joined_rows cut
joined_with true r cut = refl
joined_with false r [] = refl
joined_with false r (rows ∷ cut) = refl

-- The blocks have all the rows, in order.
pub joined_blocks : (filled : ℕ) (rows : List Row) → joined_rows (blocks_of_rows filled rows) ≡ rows
joined_blocks filled [] = refl
joined_blocks filled (r ∷ rows) =
    joined_with (nat_le block_bytes (filled + estimated_size r)) r (blocks_of_rows (or_full (filled + estimated_size r)) rows)
    ∙ ap (λ rs. r ∷ rs) (joined_blocks (or_full (filled + estimated_size r)) rows)

-- The first block and the others are short, if the first block already has some bytes.
AreShort : ℕ → List (List Row) → Type 0
AreShort filled [] = ⊤
AreShort filled (rows ∷ cut) = AllByRecursion IsWritable rows × (8 * length rows + filled < 4104) × AllByRecursion IsBlock cut × BeginOpen filled rows

short_blocks : (cut : List (List Row)) → AreShort 0 cut → AllByRecursion IsBlock cut
unfolding AreShort
short_blocks [] h = tt
short_blocks (rows ∷ cut) h = let bound = h.1 in (record { writable = h.0; begun = h.3; short = omega (arith, bound) }, h.2)

short_with : (filled : ℕ) (r : Row) (rows : List Row) → filled < 4096 → IsWritable r → ((more : ℕ) → more < 4096 → AreShort more (blocks_of_rows more rows)) → AreShort filled (blocks_of_rows filled (r ∷ rows))
unfolding AreShort
short_with filled r rows below fits rest = by (nat_le block_bytes (filled + estimated_size r)) refl
  where
    onto : (cut : List (List Row)) → AreShort (filled + estimated_size r) cut → AreShort filled (with_row false r cut)
    onto [] h = ((fits, tt), omega arith, tt, (below, tt))
    onto (b ∷ cut) h = let bound = h.1 in ((fits, h.0), omega (arith, bound), h.2, (below, h.3))

    by : (full : Bool) → nat_le block_bytes (filled + estimated_size r) ≡ full → AreShort filled (with_row full r (blocks_of_rows (cond full 0 (filled + estimated_size r)) rows))
    by true e = ((fits, tt), omega arith, short_blocks (blocks_of_rows 0 rows) (rest 0 (omega arith)), (below, tt))
    by false e = onto (blocks_of_rows (filled + estimated_size r) rows) (rest (filled + estimated_size r) (not_full (filled + estimated_size r) e))

all_short : (rows : List Row) → AllByRecursion IsWritable rows → (filled : ℕ) → filled < 4096 → AreShort filled (blocks_of_rows filled rows)
unfolding AreShort
all_short [] h filled below = tt
all_short (r ∷ rows) h filled below = short_with filled r rows below h.0 (all_short rows h.1)

-- Each block has fewer than 2^16 rows.
pub all_blocks : (rows : List Row) → AllByRecursion IsWritable rows → AllByRecursion IsBlock (blocks_of_rows 0 rows)
all_blocks rows h = short_blocks (blocks_of_rows 0 rows) (all_short rows h 0 (omega arith))

pub all_in_bounds : (rows : List Row) → AllByRecursion IsWritable rows → AllByRecursion IsInBounds rows
all_in_bounds [] h = tt
all_in_bounds (r ∷ rows) h = (h.0.in_bounds, all_in_bounds rows h.1)

all_joined : {A : Type 0} (P : A → Type 0) (xs ys : List A) → AllByRecursion P xs → AllByRecursion P ys → AllByRecursion P (xs ++ ys)
all_joined P [] ys h g = g
all_joined P (x ∷ xs) ys h g = (h.0, all_joined P xs ys h.1 g)

pub both_writable : (rest block later : List RowEntry) → rest ≡ block ++ later → AllByRecursion IsWritable (rows_of block) → AllByRecursion IsWritable (rows_of later) → AllByRecursion IsWritable (rows_of rest)
both_writable rest block later both h g =
    subst (AllByRecursion IsWritable) (sym (rows_of_both rest block later both)) (all_joined IsWritable (rows_of block) (rows_of later) h g)
