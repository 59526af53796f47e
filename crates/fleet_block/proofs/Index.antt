-- The index of the blocks that rows are cut into.
use Rattle.std.proofs.Common.{◌≡◌, ◌≢◌, refl, sym, ◌∙◌, ap, ℕ, ◌+◌, List, [], ◌∷◌, Bool, true, false, cond, arith}
use Rattle.std.specs.Prelude.{◌==◌, nat_le, sum_by}
use Rattle.std.specs.List.{AllByRecursion}
use Rattle.std.proofs.lemmas.List.Sums.{sum_by-cons}
use Rattle.row_model.specs.Rows.{Row}
use Rattle.row_model.specs.Written.Sizes.{Block, block_at, block_bytes, blocks_from, estimated_size, or_full, saturated_sum}
use Rattle.row_model.specs.Written.Tables.{with_row}
use Rattle.row_model.specs.Written.TableBytes.{blocks_of_rows}
use Rattle.fleet_block.specs.Laws.{RowsAreCutIntoBlocks, index_from}
use Rattle.fleet_block.proofs.Cuts.{joined_blocks}

filled_with : (full : Bool) (r : Row) (cut : List (List Row)) → AllByRecursion (λ (b : List Row). b ≢ []) cut → AllByRecursion (λ (b : List Row). b ≢ []) (with_row full r cut)
filled_with true r cut h = ((λ e. cc e), h)
filled_with false r [] h = ((λ e. cc e), tt)
filled_with false r (b ∷ cut) h = ((λ e. cc e), h.1)

all_filled : (filled : ℕ) (rows : List Row) → AllByRecursion (λ (b : List Row). b ≢ []) (blocks_of_rows filled rows)
all_filled filled [] = tt
all_filled filled (r ∷ rows) = filled_with (nat_le block_bytes (filled + estimated_size r)) r (blocks_of_rows (or_full (filled + estimated_size r)) rows) (all_filled (or_full (filled + estimated_size r)) rows)

-- The index without its first block, if that block was opened before. The first block begins at this offset.
later_index : ℕ → List (List Row) → List Block
later_index offset [] = []
later_index offset (rows ∷ cut) = index_from (saturated_sum (offset + sum_by estimated_size rows)) cut

index_at : Bool → ℕ → List (List Row) → List Block
index_at true offset cut = index_from offset cut
index_at false offset cut = later_index offset cut

-- A row that opens a block, or is added to the open block, and the blocks after it.
opened_full : (empty : Bool) (offset : ℕ) (r : Row) (cut : List (List Row))
    → cond empty (record { first_key = r.key; offset = offset } ∷ index_from (saturated_sum (offset + estimated_size r)) cut) (index_from (saturated_sum (offset + estimated_size r)) cut) ≡ index_at empty offset (with_row true r cut)
unfolding index_at later_index
opened_full true offset r cut = ap (λ n. record { first_key = r.key; offset = offset } ∷ index_from (saturated_sum (offset + n)) cut) (omega arith)
opened_full false offset r cut = ap (λ n. index_from (saturated_sum (offset + n)) cut) (omega arith)

stops_once : (a b c : ℕ) → saturated_sum (saturated_sum (a + b) + c) ≡ saturated_sum (a + (b + c))
stops_once a b c = omega arith

opened_more : (empty : Bool) (offset : ℕ) (r : Row) (cut : List (List Row)) → AllByRecursion (λ (b : List Row). b ≢ []) cut
    → cond empty (record { first_key = r.key; offset = offset } ∷ later_index (saturated_sum (offset + estimated_size r)) cut) (later_index (saturated_sum (offset + estimated_size r)) cut) ≡ index_at empty offset (with_row false r cut)
unfolding index_at later_index
opened_more true offset r [] h = refl
opened_more false offset r [] h = refl
opened_more true offset r (b ∷ cut) h = ap (λ n. record { first_key = r.key; offset = offset } ∷ index_from n cut) (stops_once offset (estimated_size r) (sum_by estimated_size b) ∙ ap (λ n. saturated_sum (offset + n)) (sym (sum_by-cons estimated_size r b)))
opened_more false offset r (b ∷ cut) h = ap (λ n. index_from n cut) (stops_once offset (estimated_size r) (sum_by estimated_size b) ∙ ap (λ n. saturated_sum (offset + n)) (sym (sum_by-cons estimated_size r b)))

index_is : (rows : List Row) (offset filled : ℕ) → blocks_from offset filled rows ≡ index_at (filled == 0) offset (blocks_of_rows filled rows)
unfolding index_at later_index
index_is [] offset filled = none (filled == 0)
  where
    none : (empty : Bool) → [] ≡ index_at empty offset []
    none true = refl
    none false = refl
index_is (r ∷ rows) offset filled = by (nat_le block_bytes (filled + estimated_size r)) (index_is rows (saturated_sum (offset + estimated_size r)))
  where
    later : ℕ → List (List Row)
    later size = blocks_of_rows size rows

    by : (full : Bool) → ((size : ℕ) → blocks_from (saturated_sum (offset + estimated_size r)) size rows ≡ index_at (size == 0) (saturated_sum (offset + estimated_size r)) (blocks_of_rows size rows))
        → block_at offset filled r (blocks_from (saturated_sum (offset + estimated_size r)) (cond full 0 (filled + estimated_size r)) rows) ≡ index_at (filled == 0) offset (with_row full r (blocks_of_rows (cond full 0 (filled + estimated_size r)) rows))
    by true rest = ap (block_at offset filled r) (rest 0) ∙ opened_full (filled == 0) offset r (blocks_of_rows 0 rows)
    by false rest =
        let some : (filled + estimated_size r == 0) ≡ false = grind arith in
        ap (block_at offset filled r) (rest (filled + estimated_size r) ∙ ap (λ e. index_at e (saturated_sum (offset + estimated_size r)) (blocks_of_rows (filled + estimated_size r) rows)) some)
        ∙ opened_more (filled == 0) offset r (blocks_of_rows (filled + estimated_size r) rows) (all_filled (filled + estimated_size r) rows)

pub rows_are_cut_into_blocks : RowsAreCutIntoBlocks
unfolding index_at
rows_are_cut_into_blocks rows = record { all = joined_blocks 0 rows; filled = all_filled 0 rows; index = sym (index_is rows 0 0) }
