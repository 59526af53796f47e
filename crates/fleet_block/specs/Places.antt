-- Where the blocks of a table stand.
use Rattle.std.specs.Prelude.{ℕ, ◌+◌, List, [], ◌∷◌, length}
use Rattle.row_model.specs.Rows.{Row}
use Rattle.row_model.specs.Written.TableBytes.{rows_bytes}
use Rattle.fleet_block.specs.declared.place.BlockPlace.{BlockPlace}

-- The places of some blocks, where so many rows stand before the first of them, in so many bytes.
abbrev pub places_from : (row place : ℕ) (cut : List (List Row)) → List BlockPlace
places_from row place [] = []
places_from row place (block ∷ cut) =
    record { row = row; place = place } ∷ places_from (row + length block) (place + length (rows_bytes block)) cut
