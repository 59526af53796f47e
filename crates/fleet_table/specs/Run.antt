-- The rows of a run's tables.
use Rattle.std.specs.Prelude.{List, flat_map}
use Rattle.row_model.specs.Ranges.{Range, rows_in}
use Rattle.row_model.specs.Rows.{Row}

-- The rows of all tables, table by table, whose keys lie in the range.
abbrev pub rows_of_tables : Range → List (List Row) → List Row
rows_of_tables range tables = flat_map (rows_in range) tables
