-- Ranges that are taken table by table and then finished, and the job that they make.
use Rattle.std.specs.Prelude.{◌≡◌, ℕ, true, ⊤, List, [], ◌∷◌, ◌++◌, map, flat_map, take, sum, Option, None}
use Rattle.std.specs.List.{AllByRecursion}
use Rattle.row_model.specs.Fold.{Operator}
use Rattle.row_model.specs.JobRows.{job_rows}
use Rattle.row_model.specs.Ranges.{Range, rows_in}
use Rattle.row_model.specs.Rows.{Row}
use Rattle.row_model.specs.Settings.{Settings}
use Rattle.row_laws.specs.Resume.{Cursor, cursor_after}
use Rattle.row_laws.specs.Sources.{merged_rows}
use Rattle.row_laws.specs.Turns.{AreCut}
use Rattle.fleet_rows.specs.Row.{rows_of}
use Rattle.fleet_rows.specs.declared.row.RowEntry.{RowEntry}
use Rattle.row_model.specs.Written.Tables.{cut_tables}
use Rattle.fleet_range.specs.Keys.{range_of}
use Rattle.fleet_rows.specs.Settings.{settings_of}
use Rattle.fleet_exec.specs.Cut.{IsFinished, AreFinished}
use Rattle.fleet_exec.specs.declared.range_job.RangeJob.{RangeJob}
use Rattle.fleet_exec.specs.Ranges.{Tables, Sources, AreSources, source_rows, left_of, made_of}
use Rattle.fleet_exec.specs.Tables.{IsNextTable}

-- The rows of all sources, in order.
abbrev pub all_rows : Sources → List Row
all_rows sources = merged_rows (map source_rows sources)

-- Calls gave these tables one after the other. Each call was asked for one of these numbers of rows. The
-- first call began after the cursor, and each later one after the last row of the tables before.
abbrev pub AreTaken : (merge : Operator) (settings : Settings) (range : Range) (sources : Sources)
    (cursor : Option Cursor) (sizes : List ℕ) (tables : List (List RowEntry)) → Type 0
AreTaken merge settings range sources cursor [] [] = ⊤
AreTaken merge settings range sources cursor [] (table ∷ tables) = ⊥
AreTaken merge settings range sources cursor (most ∷ sizes) [] = ⊥
AreTaken merge settings range sources cursor (most ∷ sizes) (table ∷ tables) =
    IsNextTable (left_of merge settings range cursor sources) most table
    × AreTaken merge settings range sources (cursor_after cursor (rows_of table)) sizes tables

-- The rows of tables, one table after the other.
abbrev pub rows_of_all : List (List RowEntry) → List Row
rows_of_all tables = flat_map rows_of tables

-- Tables that are taken from the start of a range have the first rows of what a job makes of it. They have as
-- many rows as were asked for in all, or all rows if there are fewer.
abbrev pub TakenAreFirst : Operator → Type 0
TakenAreFirst merge = (settings : Settings) (range : Range) (sources : Sources) (sizes : List ℕ)
    (tables : List (List RowEntry)) → AreSources sources
    → AreTaken merge settings range sources None sizes tables
    → rows_of_all tables ≡ take (sum sizes) (job_rows merge settings (rows_in range (all_rows sources))).rows

-- A range, the numbers of rows that were asked for, and the tables that were taken. The rest is finished in
-- tables that are cut at a size.
pub record RangeTurns : Type 0 where
  pub range : Range
  pub sizes : List ℕ
  pub taken : List (List RowEntry)
  pub cut_size : ℕ
  pub finished : Tables

-- Calls gave the taken tables from the start of the range, and finished all that was left after them.
pub record AreMade (merge : Operator) (settings : Settings) (sources : Sources) (turns : RangeTurns) : Type 0 where
  pub begin : AreTaken merge settings turns.range sources None turns.sizes turns.taken
  pub end : IsFinished turns.cut_size
      (left_of merge settings turns.range (cursor_after None (rows_of_all turns.taken)) sources) turns.finished

-- The rows of the taken tables, followed by the rows of the finished tables.
abbrev pub made_rows : RangeTurns → List Row
made_rows turns = rows_of_all turns.taken ++ flat_map (λ rows. rows) turns.finished

-- Let a range be taken table by table and then finished. Then the rows of its tables are all that a job makes
-- of the range, and no fold refuses in it.
abbrev pub TakenAndFinishedMakeAll : Operator → Type 0
TakenAndFinishedMakeAll merge = (settings : Settings) (sources : Sources) (turns : RangeTurns) → AreSources sources
    → AreMade merge settings sources turns
    → job_rows merge settings (rows_in turns.range (all_rows sources)) ≡ record { rows = made_rows turns; whole = true }

-- Let ranges follow each other and have every key, and let each be taken table by table and then finished.
-- Then their rows, one range after the other, are all that the job makes, and no fold refuses. The taken
-- tables of a range may end anywhere: between keys, or between two versions of one key.
abbrev pub RangesMakeJob : Operator → Type 0
RangesMakeJob merge = (settings : Settings) (sources : Sources) (ranges : List RangeTurns) → AreSources sources
    → AreCut (map (λ turns. turns.range) ranges)
    → AllByRecursion (AreMade merge settings sources) ranges
    → job_rows merge settings (all_rows sources) ≡ record { rows = flat_map made_rows ranges; whole = true }

-- ---- ranges that one call finishes

-- A range that is still to be finished. It has the numbers of rows that were asked for before, and the tables
-- that were taken.
pub record BegunRange : Type 0 where
  pub job : RangeJob
  pub sizes : List ℕ
  pub taken : List (List RowEntry)

-- The tables were taken from the start of the range, under these settings. The range's cursor is the place of
-- their last row. If no row was taken, there is no cursor.
pub record IsBegun (merge : Operator) (settings : Settings) (sources : Sources) (begun : BegunRange) : Type 0 where
  pub same : settings_of begun.job.settings ≡ settings
  pub tables : AreTaken merge settings (range_of begun.job.range) sources None begun.sizes begun.taken
  pub after : begun.job.cursor ≡ cursor_after None (rows_of_all begun.taken)

-- A begun range together with the tables in which a call finishes it. The call cuts tables at this size.
abbrev pub finished_at : (merge : Operator) (sources : Sources) (size : ℕ) (begun : BegunRange) → RangeTurns
finished_at merge sources size begun =
    record {
      range = range_of begun.job.range;
      sizes = begun.sizes;
      taken = begun.taken;
      cut_size = size;
      finished = cut_tables size (made_of merge sources begun.job).rows;
    }

-- The call gave the tables in which it finished each range. The rows taken and the rows finished, one range
-- after the other, are all that the job makes, and no fold refuses.
pub record FinishedMakeJob (merge : Operator) (settings : Settings) (sources : Sources) (size : ℕ)
    (begun : List BegunRange) (ranges : List Tables) : Type 0 where
  pub given : ranges ≡ map (λ turns. turns.finished) (map (finished_at merge sources size) begun)
  pub all : job_rows merge settings (all_rows sources)
      ≡ record { rows = flat_map made_rows (map (finished_at merge sources size) begun); whole = true }

-- Let begun ranges follow each other and have every key, and let one call finish them. Then the rows taken
-- and the rows finished are all that the job makes.
abbrev pub FinishMakesJob : Operator → Type 0
FinishMakesJob merge = (settings : Settings) (sources : Sources) (size : ℕ) (begun : List BegunRange)
    (ranges : List Tables) → AreSources sources
    → AreCut (map (λ b. range_of b.job.range) begun)
    → AllByRecursion (IsBegun merge settings sources) begun
    → AreFinished merge sources size (map (λ b. b.job) begun) ranges
    → FinishedMakeJob merge settings sources size begun ranges
