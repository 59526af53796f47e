-- Where the rows of a block stand in the bytes of a table.
use Rattle.std.proofs.Common.{◌≡◌, refl, sym, ◌∙◌, ap, List, ◌∷◌, ◌++◌, length, drop, arith}
use Rattle.std.specs.Int.{w64, to_be_bytes}
use Rattle.std.specs.List.{flat_map}
use Rattle.std.proofs.lemmas.Grind.{flat_map-append}
use Rattle.std.proofs.lemmas.List.{drop-drop, drop_at}
use Rattle.row_model.specs.Rows.{Row}
use Rattle.row_model.specs.Written.TableBytes.{bytes_of_blocks, header_bytes, rows_bytes}
use Rattle.fleet_block.specs.Laws.{BlocksStandInBytes, rows_place}
use Rattle.fleet_block.proofs.Tables.{headers_len}

rows_after_headers : (cut : List (List Row)) → drop (rows_place cut) (bytes_of_blocks cut) ≡ flat_map rows_bytes cut
rows_after_headers cut =
    let heads = headers_len cut in
    drop_at (to_be_bytes w64 (length cut) ++ flat_map header_bytes cut) (flat_map rows_bytes cut) (rows_place cut) (omega (arith, heads))

pub blocks_stand_in_bytes : BlocksStandInBytes
blocks_stand_in_bytes before after block =
    sym (drop-drop (length (flat_map rows_bytes before)) (rows_place (before ++ (block ∷ after))) (bytes_of_blocks (before ++ (block ∷ after))))
    ∙ ap (drop (length (flat_map rows_bytes before))) (rows_after_headers (before ++ (block ∷ after)) ∙ flat_map-append rows_bytes before (block ∷ after))
    ∙ drop_at (flat_map rows_bytes before) (flat_map rows_bytes (block ∷ after)) (length (flat_map rows_bytes before)) refl
