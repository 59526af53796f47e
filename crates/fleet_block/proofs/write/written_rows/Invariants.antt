use Rattle.std.proofs.Common.{◌≡◌, ◌++◌, length, ◌+◌}
use Rattle.std.specs.List.{AllByRecursion, flat_map}
use Rattle.row_model.specs.Bounds.{IsInBounds}
use Rattle.row_model.specs.Written.TableBytes.{blocks_of_rows, header_bytes, rows_bytes, IsWritable}
use Rattle.fleet_rows.specs.Row.{rows_of}
use Rattle.fleet_block.specs.Places.{places_from}
use Rattle.fleet_block.proofs.write.written_rows.Given as goal

abbrev pub invariant-rest : goal.invariant-rest
invariant-rest l = record {
  in_bounds : AllByRecursion IsInBounds (rows_of l.rest);
  fit : AllByRecursion IsWritable (rows_of l.rest) → AllByRecursion IsWritable (rows_of l.rows);
  headers_left : l.headers.items ++ flat_map header_bytes (blocks_of_rows 0 (rows_of l.rest)) ≡ flat_map header_bytes (blocks_of_rows 0 (rows_of l.rows));
  rows_left : l.written.items ++ flat_map rows_bytes (blocks_of_rows 0 (rows_of l.rest)) ≡ flat_map rows_bytes (blocks_of_rows 0 (rows_of l.rows));
  places_left : l.places.items ++ places_from l.row (length l.written.items) (blocks_of_rows 0 (rows_of l.rest)) ≡ places_from 0 0 (blocks_of_rows 0 (rows_of l.rows));
  blocks_left : length l.places.items + length (blocks_of_rows 0 (rows_of l.rest)) ≡ length (blocks_of_rows 0 (rows_of l.rows));
  counted : l.row + length l.rest ≡ length l.rows;
}

abbrev pub decreases-rest : goal.decreases-rest
decreases-rest l = length l.rest
