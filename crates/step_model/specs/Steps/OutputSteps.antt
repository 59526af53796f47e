-- The step by which a worker writes one table of a job.
use Rattle.std.specs.Prelude.{ℕ, ◌-◌, ◌==◌, Bool, ◌&&◌, if◌then◌else◌, List, [], ◌∷◌, ◌++◌, map, filter, take, Option, Some, None}
use Rattle.row_model.specs.Rows.{Row}
use Rattle.row_model.specs.Fold.{Operator}
use Rattle.row_model.specs.JobRows.{JobRows}
use Rattle.row_model.specs.Ranges.{Range, is_after_start, is_before_end}
use Rattle.fleet_model.specs.Nodes.{Tables, table_rows}
use Rattle.fleet_model.specs.History.{Event, GetTable}
use Rattle.fleet_model.specs.Trees.{first_key, last_key}
use Rattle.fleet_model.specs.Work.Attempts.{rows_left}
use Rattle.fleet_model.specs.Work.Parties.{Attempt, LiveWorker, without_attempts, put_attempt}
use Rattle.step_model.specs.Courses.Course.{Course, Ends, calls_each, puts_table}
use Rattle.step_model.specs.Courses.Tries.{tries}
use Rattle.step_model.specs.Courses.StepEnds.{StepEnd, Reports, OperatorRefuses, most_refused}
use Rattle.step_model.specs.Steps.BeatSteps.{release_try}

-- What an output is asked with: the worker writes the next rows of one range of its attempt.
pub record OutputAsk : Type 0 where
  pub moment : ℕ  -- in milliseconds
  pub worker : LiveWorker
  pub attempt : Attempt
  pub place : ℕ  -- of the range among those of the attempt, counted from 1
  pub range : Range × List ℕ  -- with the tables that are noted for it
  pub rows : ℕ  -- the most rows that are written
  pub refusal : Option (List ℕ)  -- the operator's message if it refuses a fold

-- The report of an output: the table that it put with the table's rows, or None if no row was left.
-- It also has the attempts that the worker runs from now on.
pub record Written : Type 0 where
  pub table : Option (ℕ × List Row)
  pub attempts : List Attempt

-- ---- source tables

-- The keys of the table, from its first to its last one, meet the range.
abbrev pub meets : Tables → Range → ℕ → Bool
meets tables range table =
    let rows = table_rows tables table in
    is_before_end range.to (first_key rows) && is_after_start range.from (last_key [] rows)

-- The events by which a worker gets each of these tables.
abbrev pub gets_tables : List ℕ → List Event
gets_tables tables = map (λ table. GetTable table) tables

-- ---- refusals of the operator

-- A step after the operator refused a fold: it gives the attempt back if it is live, and ends with
-- the operator's message.
abbrev pub gives_back : {A : Type 0} → LiveWorker → Attempt → (message : List ℕ) → Course (StepEnd A)
gives_back w a message = tries (release_try w (a ∷ []) (λ released. Ends (OperatorRefuses message))) most_refused 0

-- A step goes on unless the operator refused a fold. In that case it gives the attempt back.
abbrev pub unless_refused : {A : Type 0} → LiveWorker → Attempt → (refusal : Option (List ℕ)) → Course (StepEnd A)
    → Course (StepEnd A)
unless_refused w a None next = next
unless_refused w a (Some message) next = gives_back w a message

-- ---- the table

-- The ranges of an attempt after one more table is noted for the range at this place. Places are
-- counted from 1.
abbrev pub noted_at : (place table : ℕ) → List (Range × List ℕ) → List (Range × List ℕ)
noted_at place table [] = []
noted_at place table (r ∷ ranges) =
    if place == 1 then (r.0, r.1 ++ table ∷ []) ∷ ranges else r ∷ noted_at (place - 1) table ranges

-- The attempt after one more table is noted for its range at this place.
abbrev pub noting : (place table : ℕ) → Attempt → Attempt
noting place table a = record a { context = record a.context { ranges = noted_at place table a.context.ranges } }

-- The attempts of a worker after one more table is noted for a range of this attempt.
abbrev pub with_noted : (place table : ℕ) → Attempt → (attempts : List Attempt) → List Attempt
with_noted place table a attempts = put_attempt (noting place table a) (without_attempts (a.job ∷ []) attempts)

-- The rows of a range that the attempt has not yet written.
abbrev pub unwritten : (merge : Operator) (tables : Tables) (a : Attempt) (range : Range × List ℕ) → JobRows
unwritten merge tables a range = rows_left merge tables a.context.settings a.sources range

-- The rows that an output writes: the next ones of its range, at most as many as it is asked for.
abbrev pub rows_written : Operator → Tables → OutputAsk → List Row
rows_written merge tables ask = take ask.rows (unwritten merge tables ask.attempt ask.range).rows

-- An output puts these rows as a table and notes it for its range. If there are no rows, it puts
-- nothing.
abbrev pub writes : OutputAsk → List Row → Course (StepEnd Written)
writes ask [] = Ends (Reports (record { table = None; attempts = ask.worker.attempts }))
writes ask (r ∷ rows) = puts_table ask.moment (r ∷ rows) (λ table. Ends (Reports (record {
  table = Some (table, r ∷ rows);
  attempts = with_noted ask.place table ask.attempt ask.worker.attempts;
})))

-- An output gets the source tables that meet its range, and puts the next rows of the range as a
-- table. The operator is that of the store, and `tables` are the store's tables as the step begins.
unfoldable pub output : Operator → (tables : Tables) → OutputAsk → Course (StepEnd Written)
output merge tables ask =
    calls_each (gets_tables (filter (meets tables ask.range.0) ask.attempt.sources))
    (unless_refused ask.worker ask.attempt ask.refusal (writes ask (rows_written merge tables ask)))
