-- Where blocks stand, one block after another.
use Rattle.std.proofs.Common.{◌≡◌, refl, sym, ◌∙◌, ap, ℕ, zero, suc, ◌<◌, ◌+◌, List, [], ◌∷◌, ◌++◌, length, arith}
use Rattle.std.specs.Prelude.{slice_index_or}
use Rattle.std.specs.List.{flat_map}
use Rattle.std.proofs.lemmas.List.{append_assoc, length-append}
use Rattle.row_model.specs.Rows.{Row}
use Rattle.row_model.specs.Written.TableBytes.{rows_bytes}
use Rattle.fleet_block.specs.Finds.{joined_rows}
use Rattle.fleet_block.specs.Places.{places_from}
use Rattle.fleet_block.specs.declared.place.BlockPlace.{BlockPlace}

pub places_count : (row place : ℕ) (cut : List (List Row)) → length (places_from row place cut) ≡ length cut
places_count row place [] = refl
places_count row place (b ∷ cut) = let rest = places_count (row + length b) (place + length (rows_bytes b)) cut in omega (arith, rest)

-- The places so far and those of the other blocks are all places, also once the next block was placed.
pub placed : (so_far more : List BlockPlace) (row place next afterwards : ℕ) (block : List Row) (left later : List (List Row)) (all : List BlockPlace)
    → left ≡ block ∷ later → so_far ++ places_from row place left ≡ all → more ≡ so_far ++ record { row = row; place = place } ∷ [] → next ≡ row + length block → afterwards ≡ place + length (rows_bytes block)
    → more ++ places_from next afterwards later ≡ all
placed so_far more row place next afterwards block left later all cut before pushed counted measured =
    ap (λ ps. ps ++ places_from next afterwards later) pushed
    ∙ append_assoc so_far (record { row = row; place = place } ∷ []) (places_from next afterwards later)
    ∙ ap (λ n. so_far ++ record { row = row; place = place } ∷ places_from n afterwards later) counted
    ∙ ap (λ n. so_far ++ record { row = row; place = place } ∷ places_from (row + length block) n later) measured
    ∙ ap (λ bs. so_far ++ places_from row place bs) (sym cut)
    ∙ before

-- A block among others, and where it stands: the numbers of blocks, of rows and of bytes before it, where so
-- many rows and bytes are before all blocks.
pub record IsBlockFrom (start offset : ℕ) (cut : List (List Row)) (block row place : ℕ) : Type 0 where
  pub before : List (List Row)
  pub here : List Row
  pub after : List (List Row)
  pub all : cut ≡ before ++ here ∷ after
  pub blocks : block ≡ length before
  pub rows : row ≡ start + length (joined_rows before)
  pub bytes : place ≡ offset + length (flat_map rows_bytes before)

block_from : (start offset : ℕ) (cut : List (List Row)) (i : ℕ) (d p : BlockPlace) → i < length cut → p ≡ slice_index_or (places_from start offset cut) i d → IsBlockFrom start offset cut i p.row p.place
block_from start offset [] i d p within is = absurd (omega arith)
block_from start offset (b ∷ cut) zero d p within is = record {
  before = [];
  here = b;
  after = cut;
  all = refl;
  blocks = refl;
  rows = ap (λ (x : BlockPlace). x.row) is ∙ omega arith;
  bytes = ap (λ (x : BlockPlace). x.place) is ∙ omega arith;
}
block_from start offset (b ∷ cut) (suc i) d p within is =
    let rest = block_from (start + length b) (offset + length (rows_bytes b)) cut i d p (omega arith) is in
    let counted = length-append b (joined_rows rest.before) in
    let measured = length-append (rows_bytes b) (flat_map rows_bytes rest.before) in
    let one = rest.rows in
    let two = rest.bytes in
    let three = rest.blocks in
    record {
      before = b ∷ rest.before;
      here = rest.here;
      after = rest.after;
      all = ap (λ bs. b ∷ bs) rest.all;
      blocks = omega (arith, three);
      rows = omega (arith, counted, one);
      bytes = omega (arith, measured, two);
    }

pub block_at_place : (cut : List (List Row)) (places : List BlockPlace) (i : ℕ) (p d : BlockPlace) → places ≡ places_from 0 0 cut → i < length places → p ≡ slice_index_or places i d → IsBlockFrom 0 0 cut i p.row p.place
block_at_place cut places i p d are within is =
    let counted = ap length are ∙ places_count 0 0 cut in
    block_from 0 0 cut i d p (omega (arith, counted)) (is ∙ ap (λ ps. slice_index_or ps i d) are)
