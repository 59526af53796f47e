-- Reading all blocks of a table.
use Rattle.std.proofs.Common.{◌≡◌, refl, sym, ◌∙◌, ap, subst, ℕ, ◌<◌, ◌≤◌, ◌+◌, ◌*◌, ◌^◌, List, [], ◌∷◌, ◌++◌, length, drop, Bool, true, false, arith}
use Rattle.std.specs.List.{flat_map}
use Rattle.std.proofs.lemmas.List.{append-nil, drop-drop, drop_at, length-append, length-drop}
use Rattle.row_model.specs.Rows.{Row}
use Rattle.row_model.specs.Written.TableBytes.{blocks_of_rows, bytes_of_blocks, header_bytes, rows_bytes, table_bytes, IsTaken}
use Rattle.std.specs.Prelude.{Option, Some, None, not}
use Rattle.fleet_block.specs.Finds.{FindsAll}
use Rattle.fleet_block.proofs.Cuts.{all_blocks, joined_blocks}
use Rattle.fleet_block.proofs.Later.{Rows, view}

pub headers_len : (cut : List (List Row)) → length (flat_map header_bytes cut) ≡ 10 * length cut
headers_len [] = refl
headers_len (b ∷ cut) = let rest = headers_len cut in omega (arith, rest)

pub count_fits : (cut : List (List Row)) (bytes : List ℕ) → length bytes < 2 ^ 64 → bytes ≡ bytes_of_blocks cut → length cut < 2 ^ 64
count_fits cut bytes small e =
    let all = ap length e in
    let parts = length-append (flat_map header_bytes cut) (flat_map rows_bytes cut) in
    let heads = headers_len cut in
    omega (arith, all, parts, heads)

pub enough_left : (cut : List (List Row)) (bytes : List ℕ) (header : ℕ) → drop header bytes ≡ flat_map header_bytes cut ++ flat_map rows_bytes cut → 10 * length cut + header ≤ length bytes + header
enough_left cut bytes header e =
    let all = ap length e in
    let parts = length-append (flat_map header_bytes cut) (flat_map rows_bytes cut) in
    let heads = headers_len cut in
    omega (arith, all, parts, heads, length-drop header bytes)

pub rows_after : (cut : List (List Row)) (bytes : List ℕ) (header count : ℕ) → count ≡ length cut → drop header bytes ≡ flat_map header_bytes cut ++ flat_map rows_bytes cut → drop (header + count * 10) bytes ≡ flat_map rows_bytes cut ++ []
rows_after cut bytes header count counted e =
    let heads = headers_len cut in
    sym (drop-drop (count * 10) header bytes)
    ∙ ap (drop (count * 10)) e
    ∙ drop_at (flat_map header_bytes cut) (flat_map rows_bytes cut) (count * 10) (omega (arith, heads, counted))
    ∙ sym (append-nil (flat_map rows_bytes cut))

-- ---- the rows of a table

module _ (rows : List Row) (taken : IsTaken rows) (bytes : List ℕ) (e : bytes ≡ table_bytes rows) (found : Option Rows) (finds : FindsAll view bytes found) where
  -- A reader of all blocks finds the rows of a table.
  pub none_missed : found ≡ None → ⊥
  none_missed is = subst (FindsAll view bytes) is finds (blocks_of_rows 0 rows) (all_blocks rows taken.writable) e

  pub these_found : (v : Rows) → found ≡ Some v → view v ≡ rows
  these_found v is = subst (FindsAll view bytes) is finds (blocks_of_rows 0 rows) (all_blocks rows taken.writable) e ∙ joined_blocks 0 rows

pub passed : (b : Bool) → false ≡ not b → b ≡ true
passed true e = refl
passed false e = absurd (cc e)
