-- The sources of a job, and what is left of one of its ranges after a cursor.
use Rattle.std.specs.Prelude.{List, map, flat_map, Option, Some, None, true, false}
use Rattle.std.specs.List.{AllByRecursion}
use Rattle.row_model.specs.Fold.{Operator}
use Rattle.row_model.specs.JobRows.{JobRows}
use Rattle.row_model.specs.Ranges.{Range, rows_in}
use Rattle.row_model.specs.Rows.{Row, IsStrictlyOrdered}
use Rattle.row_model.specs.Settings.{Settings}
use Rattle.row_laws.specs.Merges.{AreApart}
use Rattle.row_laws.specs.Resume.{Cursor}
use Rattle.row_laws.specs.Sources.{merged_rows, made_of_sources}
use Rattle.fleet_iter.specs.Iteration.{IteratorState, from_key}
use Rattle.fleet_range.specs.Keys.{range_of}
use Rattle.fleet_rows.specs.Settings.{settings_of}
use Rattle.fleet_table.specs.Iterator.{state_of}
use Rattle.fleet_table.specs.Run.{rows_of_tables}
use Rattle.fleet_exec.specs.declared.range_job.RangeJob.{RangeJob}

-- Tables, each as its rows.
abbrev pub Tables : Type 0
Tables = List (List Row)

-- The sources of a job, each as its tables.
abbrev pub Sources : Type 0
Sources = List Tables

-- The rows of a source's tables, one table after the other.
abbrev pub source_rows : Tables → List Row
source_rows tables = flat_map (λ rows. rows) tables

-- Each source is strictly ordered, and no two rows of the sources have both key and sequence in common.
pub record AreSources (sources : Sources) : Type 0 where
  pub ordered : AllByRecursion (λ tables. IsStrictlyOrdered (source_rows tables)) sources
  pub apart : AreApart (flat_map source_rows sources)

-- What a job makes of the rows of a range that are left after a cursor.
abbrev pub left_of : (merge : Operator) (settings : Settings) (range : Range) (cursor : Option Cursor)
    (sources : Sources) → JobRows
left_of merge settings range cursor sources = made_of_sources merge settings range cursor (map source_rows sources)

-- What a job makes of the rows of this range that are left after its cursor.
abbrev pub made_of : Operator → Sources → RangeJob → JobRows
made_of merge sources job = left_of merge (settings_of job.settings) (range_of job.range) job.cursor sources

-- ---- opening a range

-- An iterator for each source over its rows in the range.
abbrev pub opened_states : Range → Sources → List IteratorState
opened_states range sources =
    map (λ tables. state_of (record { left = rows_of_tables range tables; broken = false })) sources

-- The rows from the cursor's key on. Without a cursor these are all rows.
abbrev pub from_cursor : Option Cursor → List Row → List Row
from_cursor None rows = rows
from_cursor (Some cursor) rows = from_key cursor.0 rows

-- The rows of each source that lie in the range.
abbrev pub ranged_sources : Range → Sources → List (List Row)
ranged_sources range sources = map (λ tables. rows_in range (source_rows tables)) sources

-- The rows of all sources in the range, in order, from the cursor's key on.
abbrev pub rows_from : Range → Option Cursor → Sources → List Row
rows_from range cursor sources = from_cursor cursor (merged_rows (ranged_sources range sources))

-- The rows that are read for this range of a job.
abbrev pub rows_read : Sources → RangeJob → List Row
rows_read sources job = rows_from (range_of job.range) job.cursor sources

-- An initialised iterator that has these rows left. Only running out of memory can fail it.
abbrev pub reading : List Row → IteratorState
reading rows = record { rows = rows; initialised = true; failure = None; whole = true; steady = true; refusal = None }
