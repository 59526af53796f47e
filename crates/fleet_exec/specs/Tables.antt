-- The next table of a range.
use Rattle.std.specs.Prelude.{◌≡◌, ◌≢◌, ℕ, ◌<◌, true, false, length, take, filter, List, [], Option, Some, None}
use Rattle.std.specs.List.{AllByRecursion}
use Rattle.row_model.specs.Fold.{Operator}
use Rattle.row_model.specs.JobRows.{JobRows, job_rows}
use Rattle.row_model.specs.Rows.{Row}
use Rattle.row_model.specs.Settings.{Settings}
use Rattle.row_laws.specs.Keys.{is_below}
use Rattle.row_laws.specs.Resume.{Cursor}
use Rattle.fleet_rows.specs.Row.{rows_of}
use Rattle.fleet_rows.specs.declared.row.RowEntry.{RowEntry}
use Rattle.fleet_rows.specs.declared.errors.SlateDBError.{SlateDBError}
use Rattle.fleet_rows.specs.declared.errors.SlateDBError.TheVariants.{Memory}
use Rattle.fleet_fold.specs.Jobs.{IsOfOperator}
use Rattle.fleet_rows.specs.Settings.{settings_of}
use Rattle.fleet_exec.specs.Ranges.{Sources, made_of, rows_read}
use Rattle.fleet_exec.specs.Taking.{left_after}
use Rattle.fleet_exec.specs.declared.range_job.RangeJob.{RangeJob}

-- The table has the first `most` rows of what is made, or all of them if there are fewer. It has at least one
-- row. If it has fewer rows than `most`, no fold refuses.
pub record IsNextTable (made : JobRows) (most : ℕ) (table : List RowEntry) : Type 0 where
  pub rows : rows_of table ≡ take most made.rows
  pub filled : table ≢ []
  pub all : length table < most → made.whole ≡ true

-- A call gives the next table. It gives none if nothing is left and no fold refuses.
abbrev pub GivesTable : JobRows → ℕ → Option (List RowEntry) → Type 0
GivesTable made most None = (made.rows ≡ []) × (made.whole ≡ true)
GivesTable made most (Some table) = IsNextTable made most table

-- A fold refuses in what is made, and `e` is what the operator answered. Take any key below which no fold
-- refuses, and any row that is read whose key is below it. Then a job makes of the keys below this row's key
-- fewer than `most` rows that are left.
pub record RefusesTable (merge : Operator) (settings : Settings) (cursor : Option Cursor) (rows : List Row)
    (made : JobRows) (most : ℕ) (e : SlateDBError) : Type 0 where
  pub refused : made.whole ≡ false
  pub operator : IsOfOperator merge rows e
  pub early : (key : List ℕ) → (job_rows merge settings (filter (is_below key) rows)).whole ≡ true
      → AllByRecursion (λ r. is_below key r ≡ true
      → length (left_after cursor (job_rows merge settings (filter (is_below r.key) rows)).rows) < most) rows

-- If the error is not out of memory, the table is refused as `RefusesTable` says.
abbrev pub RefusesTableUnless : (merge : Operator) (settings : Settings) (cursor : Option Cursor) (rows : List Row)
    (made : JobRows) (most : ℕ) (e : SlateDBError) → Type 0
RefusesTableUnless merge settings cursor rows made most e =
    e ≢ Memory → RefusesTable merge settings cursor rows made most e

-- If the error is not out of memory, the next table of this range of a job is refused as `RefusesTable` says.
abbrev pub RefusesJobTable : (merge : Operator) (sources : Sources) (job : RangeJob) (most : ℕ) (e : SlateDBError)
    → Type 0
RefusesJobTable merge sources job most e = RefusesTableUnless merge (settings_of job.settings) job.cursor
    (rows_read sources job) (made_of merge sources job) most e
