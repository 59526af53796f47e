-- Pieces of a table's bytes.
use Rattle.std.specs.Prelude.{◌≡◌, ◌≤◌, ◌<◌, List, ◌++◌, drop}
use Rattle.std.specs.List.{flat_map}
use Rattle.row_model.specs.Rows.{Row}
use Rattle.row_model.specs.Written.TableBytes.{blocks_of_rows, rows_bytes, table_bytes}
use Rattle.fleet_table.specs.declared.cursor.Cursor.{Cursor}
use Rattle.fleet_table.specs.declared.piece.Piece.{Piece}

-- What stands in a table from the piece's start on: the bytes of the piece, and then the blocks after it. A
-- piece that ends before all blocks may have any bytes.
abbrev pub IsPiece : List Row → Piece → Type 0
IsPiece rows piece = 0 < piece.end → drop piece.start (table_bytes rows)
    ≡ piece.bytes ++ flat_map rows_bytes (drop piece.end (blocks_of_rows 0 rows))

-- The row at the cursor, if there is one, begins in the piece, and its block ends there.
abbrev pub HasCursor : Piece → Cursor → Type 0
HasCursor piece cursor = (piece.start ≤ cursor.place) × (cursor.block < piece.end)
