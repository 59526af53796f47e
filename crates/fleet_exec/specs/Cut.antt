-- The rows of a range, taken table by table.
use Rattle.std.specs.Prelude.{◌≡◌, ◌≢◌, ℕ, true, false, map, List, [], ◌∷◌, ◌++◌, Option, Some, None, Result, Ok, Err}
use Rattle.std.specs.List.{AllByRecursion}
use Rattle.row_model.specs.Fold.{Operator}
use Rattle.row_model.specs.JobRows.{JobRows}
use Rattle.row_model.specs.Rows.{Row}
use Rattle.row_model.specs.Written.Tables.{with_row, cut_tables}
use Rattle.row_laws.specs.Resume.{Cursor}
use Rattle.fleet_iter.specs.Iteration.{IteratorState, CanFail}
use Rattle.fleet_rows.specs.Row.{rows_of}
use Rattle.fleet_rows.specs.declared.row.RowEntry.{RowEntry}
use Rattle.fleet_rows.specs.declared.errors.SlateDBError.{SlateDBError}
use Rattle.fleet_rows.specs.declared.errors.SlateDBError.TheVariants.{Memory}
use Rattle.fleet_fold.specs.Jobs.{IsOfOperator}
use Rattle.fleet_exec.specs.Ranges.{Tables, Sources, made_of, rows_read}
use Rattle.fleet_exec.specs.Taking.{left_after, ReadsOn}
use Rattle.fleet_exec.specs.declared.range_job.RangeJob.{RangeJob}

-- The tables after these rows are put in front of the first table's rows. If there are no tables, the rows
-- become one.
abbrev pub open_with : List Row → Tables → Tables
open_with [] tables = tables
open_with (r ∷ rows) tables = with_row false r (open_with rows tables)

-- A table of these rows, followed by the other tables. If there are no rows, there are no tables.
abbrev pub before_tables : List Row → Tables → Tables
before_tables [] tables = []
before_tables (r ∷ rows) tables = (r ∷ rows) ∷ tables

-- The next table is taken. It is the first of the tables into which the rows left are cut. It is empty only
-- if the iterator is whole.
pub record TakesTable (size : ℕ) (cursor : Option Cursor) (old : IteratorState) (table : List RowEntry)
    (new : IteratorState) : Type 0 where
  pub tables : cut_tables size (left_after cursor old.rows)
      ≡ before_tables (rows_of table) (cut_tables size (left_after cursor new.rows))
  pub reads : ReadsOn old new
  pub ends : table ≡ [] → old.whole ≡ true

-- Reading all rows is refused with `e`. If the refusal after the rows is known, and `e` is not out of memory,
-- `e` is that refusal.
pub record RefusesAll (old : IteratorState) (e : SlateDBError) : Type 0 where
  pub cause : CanFail old.whole e
  pub known : (after : SlateDBError) → old.refusal ≡ Some after → e ≢ Memory → e ≡ after

-- No fold refuses, and these tables are all that is made, cut at `size`.
pub record IsFinished (size : ℕ) (made : JobRows) (tables : Tables) : Type 0 where
  pub cut : tables ≡ cut_tables size made.rows
  pub whole : made.whole ≡ true

-- A fold refuses in what is made, and `e` is what the operator answered.
pub record RefusesRange (merge : Operator) (rows : List Row) (made : JobRows) (e : SlateDBError) : Type 0 where
  pub refused : made.whole ≡ false
  pub operator : IsOfOperator merge rows e

-- If the error is not out of memory, the range is refused as `RefusesRange` says.
abbrev pub RefusesRangeUnless : (merge : Operator) (rows : List Row) (made : JobRows) (e : SlateDBError) → Type 0
RefusesRangeUnless merge rows made e = e ≢ Memory → RefusesRange merge rows made e

-- If the error is not out of memory, what is left of this range of a job is refused as `RefusesRange` says.
abbrev pub RefusesJobRange : (merge : Operator) (sources : Sources) (job : RangeJob) (e : SlateDBError) → Type 0
RefusesJobRange merge sources job e = RefusesRangeUnless merge (rows_read sources job) (made_of merge sources job) e

-- What is left of a range of a job is finished as `IsFinished` says, or refused as `RefusesJobRange` says.
abbrev pub FinishesRange : (merge : Operator) (sources : Sources) (size : ℕ) (job : RangeJob)
    (result : Result (List (List RowEntry)) SlateDBError) → Type 0
FinishesRange merge sources size job (Ok tables) = IsFinished size (made_of merge sources job) (map rows_of tables)
FinishesRange merge sources size job (Err e) = RefusesJobRange merge sources job e

-- ---- all ranges

-- The first refusal among the answers of ranges, if there is one.
abbrev pub first_refusal : {A : Type 0} → List (Result A SlateDBError) → Option SlateDBError
first_refusal [] = None
first_refusal (Ok x ∷ answers) = first_refusal answers
first_refusal (Err e ∷ answers) = Some e

-- No fold refuses in any of the ranges, and these are the tables of what is left of each range, cut at
-- `size`.
pub record AreFinished (merge : Operator) (sources : Sources) (size : ℕ) (jobs : List RangeJob)
    (ranges : List Tables) : Type 0 where
  pub cut : ranges ≡ map (λ job. cut_tables size (made_of merge sources job).rows) jobs
  pub whole : AllByRecursion (λ job. (made_of merge sources job).whole ≡ true) jobs

-- A fold refuses in this range and in no range before it. The error is what the operator answered in this
-- range.
pub record RefusesFirst (merge : Operator) (sources : Sources) (jobs : List RangeJob) (e : SlateDBError) : Type 0 where
  pub before : List RangeJob
  pub job : RangeJob
  pub later : List RangeJob
  pub parts : jobs ≡ before ++ job ∷ later
  pub whole : AllByRecursion (λ job. (made_of merge sources job).whole ≡ true) before
  pub refuses : RefusesRange merge (rows_read sources job) (made_of merge sources job) e

-- If the error is not out of memory, a range is refused as `RefusesFirst` says.
abbrev pub RefusesFirstUnless : (merge : Operator) (sources : Sources) (jobs : List RangeJob) (e : SlateDBError)
    → Type 0
RefusesFirstUnless merge sources jobs e = e ≢ Memory → RefusesFirst merge sources jobs e
