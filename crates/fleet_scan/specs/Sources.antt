-- The rows of a scan's sources.
use Rattle.std.specs.Prelude.{List, flat_map}
use Rattle.row_model.specs.Ranges.{Range, rows_in}
use Rattle.row_model.specs.Rows.{Row, sorted_rows}
use Rattle.fleet_exec.specs.Ranges.{Sources, source_rows}

-- The rows of all sources, one source after the other.
abbrev pub all_rows : Sources → List Row
all_rows sources = flat_map source_rows sources

-- The rows of all sources in a range, in order.
abbrev pub ranged_rows : Range → Sources → List Row
ranged_rows range sources = sorted_rows (rows_in range (all_rows sources))
