-- Listing the blocks into which rows are cut, one block at a time.
use Rattle.std.proofs.Common.{◌≡◌, ◌≢◌, refl, sym, ◌∙◌, ap, ℕ, ◌+◌, List, [], ◌∷◌, ◌++◌, arith}
use Rattle.std.specs.Prelude.{sum_by}
use Rattle.std.specs.List.{AllByRecursion}
use Rattle.std.proofs.lemmas.List.{append_assoc, append-nil}
use Rattle.row_model.specs.Bounds.{IsInBounds}
use Rattle.row_model.specs.Rows.{Row}
use Rattle.row_model.specs.Written.Sizes.{Block, blocks, estimated_size, saturated_sum, table_size}
use Rattle.row_model.specs.Written.TableBytes.{blocks_of_rows}
use Rattle.fleet_tree.proofs.Sizes.{stops_once}
use Rattle.fleet_block.specs.Laws.{index_from}
use Rattle.std.specs.Prelude.{slice_index_or}
use Rattle.std.proofs.lemmas.List.{map-append}
use Rattle.std.proofs.lemmas.List.Sums.{sum_by-append}
use Rattle.fleet_block.specs.Laws.{AreTheBlocks}
use Rattle.fleet_block.proofs.Cuts.{back_in_bounds}
use Rattle.fleet_tree.specs.Handles.{blocks_of, block_of}
use Rattle.fleet_tree.specs.declared.block.BlockMeta.{BlockMeta}
use Rattle.fleet_rows.specs.declared.row.RowEntry.{RowEntry}
use Rattle.fleet_rows.specs.Row.{row_of, rows_of}

-- The state after some blocks were listed. The blocks so far, followed by the blocks of the rest, are the
-- blocks of all rows. The size so far and the sizes of the rest add up to the size of all rows.
pub record IsCutSoFar (all rest : List Row) (index : List Block) (offset : ℕ) : Type 0 where
  pub index_is : index ++ index_from offset (blocks_of_rows 0 rest) ≡ blocks all
  pub size_is : saturated_sum (offset + sum_by estimated_size rest) ≡ table_size all
  pub stopped : saturated_sum offset ≡ offset
  pub in_bounds : AllByRecursion IsInBounds rest

stops_again : (a : ℕ) → saturated_sum (saturated_sum a) ≡ saturated_sum a
stops_again a = omega arith

pub begins : (rows : List Row) → AreTheBlocks rows → AllByRecursion IsInBounds rows → IsCutSoFar rows rows [] 0
begins rows law in_bounds = record { index_is = law.index; size_is = ap saturated_sum (omega arith); stopped = omega arith; in_bounds = in_bounds }

-- A block that is not empty begins with the first row of all rows, and is listed under that row's key.
headed : (rest block later : List RowEntry) (first d : RowEntry) (offset : ℕ) (cut : List (List Row)) → rest ≡ block ++ later → block ≢ [] → first ≡ slice_index_or rest 0 d
    → index_from offset (rows_of block ∷ cut) ≡ record { first_key = first.key; offset = offset } ∷ index_from (saturated_sum (offset + sum_by estimated_size (rows_of block))) cut
headed rest [] later first d offset cut both filled is = absurd (filled refl)
headed rest (b ∷ bs) later first d offset cut both filled is =
    ap (λ (r : RowEntry). record { first_key = r.key; offset = offset } ∷ index_from (saturated_sum (offset + sum_by estimated_size (rows_of (b ∷ bs)))) cut) (sym (is ∙ ap (λ rs. slice_index_or rs 0 d) both))

-- If one more block is listed, the blocks so far and those of the rest are still the blocks of all rows.
pub listed : (all rest block later : List RowEntry) (first d : RowEntry) (key : List ℕ) (index more : List BlockMeta) (offset next : ℕ)
    → IsCutSoFar (rows_of all) (rows_of rest) (blocks_of index) offset
    → blocks_of_rows 0 (rows_of rest) ≡ rows_of block ∷ blocks_of_rows 0 (rows_of later) → rest ≡ block ++ later → block ≢ []
    → first ≡ slice_index_or rest 0 d → key ≡ first.key → more ≡ index ++ record { first_key = key; offset = offset } ∷ [] → next ≡ saturated_sum (offset + sum_by estimated_size (rows_of block))
    → IsCutSoFar (rows_of all) (rows_of later) (blocks_of more) next
listed all rest block later first d key index more offset next so_far cut both filled is keyed pushed measured = record {
  index_is =
      ap (λ (bs : List Block). bs ++ index_from next (blocks_of_rows 0 (rows_of later))) (ap blocks_of pushed ∙ map-append block_of index (record { first_key = key; offset = offset } ∷ []))
      ∙ append_assoc (blocks_of index) (record { first_key = key; offset = offset } ∷ []) (index_from next (blocks_of_rows 0 (rows_of later)))
      ∙ ap (λ (k : List ℕ). blocks_of index ++ record { first_key = k; offset = offset } ∷ index_from next (blocks_of_rows 0 (rows_of later))) keyed
      ∙ ap (λ (n : ℕ). blocks_of index ++ record { first_key = first.key; offset = offset } ∷ index_from n (blocks_of_rows 0 (rows_of later))) measured
      ∙ ap (λ (bs : List Block). blocks_of index ++ bs) (sym (ap (index_from offset) cut ∙ headed rest block later first d offset (blocks_of_rows 0 (rows_of later)) both filled is))
      ∙ so_far.index_is;
  size_is =
      ap (λ n. saturated_sum (n + sum_by estimated_size (rows_of later))) measured
      ∙ stops_once (offset + sum_by estimated_size (rows_of block)) (sum_by estimated_size (rows_of later))
      ∙ ap saturated_sum (let parts = ap (sum_by estimated_size) (ap rows_of both ∙ map-append row_of block later) ∙ sum_by-append estimated_size (rows_of block) (rows_of later) in omega (arith, parts))
      ∙ so_far.size_is;
  stopped = ap saturated_sum measured ∙ stops_again (offset + sum_by estimated_size (rows_of block)) ∙ sym measured;
  in_bounds = back_in_bounds rest block later both so_far.in_bounds;
}

pub ended_index : (all : List Row) (index : List Block) (offset : ℕ) → IsCutSoFar all [] index offset → index ≡ blocks all
ended_index all index offset so_far = sym (append-nil index) ∙ so_far.index_is

pub ended_size : (all : List Row) (index : List Block) (offset : ℕ) → IsCutSoFar all [] index offset → offset ≡ table_size all
ended_size all index offset so_far = sym so_far.stopped ∙ ap saturated_sum (omega arith) ∙ so_far.size_is
