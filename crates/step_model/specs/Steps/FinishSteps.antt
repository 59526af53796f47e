-- The step by which a worker finishes a job.
use Rattle.std.specs.Prelude.{ℕ, Bool, true, false, List, [], ◌∷◌, ◌++◌, map, Option, Some, None}
use Rattle.row_model.specs.Rows.{Row}
use Rattle.row_model.specs.Fold.{Operator}
use Rattle.row_model.specs.Ranges.{Range}
use Rattle.row_model.specs.Written.Tables.{cut_tables}
use Rattle.fleet_model.specs.Nodes.{Tables}
use Rattle.fleet_model.specs.History.{Finish}
use Rattle.fleet_model.specs.Store.{Records}
use Rattle.fleet_model.specs.Work.Records.{Unrecorded, jobs_after}
use Rattle.fleet_model.specs.Work.Attempts.{finish_cut}
use Rattle.fleet_model.specs.Work.Parties.{Attempt, LiveWorker, without_attempts, is_live}
use Rattle.step_model.specs.Courses.Course.{Course, Ends, gets_records, calls_each, puts_ranges, puts_records}
use Rattle.step_model.specs.Courses.Tries.{Try, tries}
use Rattle.step_model.specs.Courses.StepEnds.{StepEnd, Reports, NotOwner, most_refused}
use Rattle.step_model.specs.Steps.ClaimSteps.{at_moment}
use Rattle.step_model.specs.Steps.OutputSteps.{gets_tables, unless_refused, unwritten}

-- What a finish is asked with: the worker writes all rows that are left of its attempt and ends the
-- job.
pub record FinishAsk : Type 0 where
  pub moment : ℕ  -- in milliseconds
  pub worker : LiveWorker
  pub attempt : Attempt
  pub table_size : ℕ  -- a table ends with the row with which it exceeds this, in bytes
  pub refusal : Option (List ℕ)  -- the operator's message if it refuses a fold

-- The report of a finish: the tables of each range, and the attempts that the worker runs from now
-- on.
pub record FinishedJob : Type 0 where
  pub outputs : List (List ℕ)
  pub attempts : List Attempt

-- ---- the end of the job

-- The tables of each range: first those that the attempt has noted, then those that the finish put.
abbrev pub all_outputs : List (Range × List ℕ) → (new : List (List ℕ)) → List (List ℕ)
all_outputs [] new = []
all_outputs (r ∷ ranges) [] = r.1 ∷ all_outputs ranges []
all_outputs (r ∷ ranges) (tables ∷ new) = (r.1 ++ tables) ∷ all_outputs ranges new

-- What the history does not record of a finish: the moment, and the cut that the job keeps.
abbrev pub unrecorded_of_finish : (moment : ℕ) → LiveWorker → Attempt → Unrecorded
unrecorded_of_finish moment w a = record (at_moment moment) { kept_cut = finish_cut w.release a.context }

-- The end of a job, given whether its attempt is live. If it is, the step puts the records with the
-- job as Compacted.
abbrev pub ends_job : (moment : ℕ) → LiveWorker → Attempt → (outputs : List (List ℕ)) → (got : Records) → (live : Bool)
    → Try FinishedJob
ends_job moment w a outputs got false again = Ends NotOwner
ends_job moment w a outputs got true again =
    let change = Finish w.number a.job a.number outputs in
    puts_records got change got.epoch (jobs_after (unrecorded_of_finish moment w a) change got.jobs)
    (Ends (Reports (record { outputs = outputs; attempts = without_attempts (a.job ∷ []) w.attempts })))
    again

-- The end of a job after the get of the records. If there are no records, the worker does not own
-- the job.
abbrev pub ends_job_by : (moment : ℕ) → LiveWorker → Attempt → (outputs : List (List ℕ)) → (got : Option Records)
    → Try FinishedJob
ends_job_by moment w a outputs None again = Ends NotOwner
ends_job_by moment w a outputs (Some got) again = ends_job moment w a outputs got (is_live got.jobs w.number a) again

-- One try of the end of a job.
abbrev pub end_try : (moment : ℕ) → LiveWorker → Attempt → (outputs : List (List ℕ)) → Try FinishedJob
end_try moment w a outputs again = gets_records (λ got. ends_job_by moment w a outputs got again)

-- The worker puts the records with the job as Compacted, if the attempt is live. All tables of the
-- job are put by then.
unfoldable pub end_job : (moment : ℕ) → LiveWorker → Attempt → (outputs : List (List ℕ)) → Course (StepEnd FinishedJob)
end_job moment w a outputs = tries (end_try moment w a outputs) most_refused 0

-- ---- the step

-- The tables that a finish puts: for each range the rows that are left of it, cut into tables.
abbrev pub tables_left : Operator → Tables → FinishAsk → List (List (List Row))
tables_left merge tables ask =
    map (λ range. cut_tables ask.table_size (unwritten merge tables ask.attempt range).rows) ask.attempt.context.ranges

-- A finish puts these tables, range after range, and ends the job.
abbrev pub puts_and_ends : FinishAsk → List (List (List Row)) → Course (StepEnd FinishedJob)
puts_and_ends ask tables = puts_ranges ask.moment tables (λ new.
    end_job ask.moment ask.worker ask.attempt (all_outputs ask.attempt.context.ranges new))

-- A finish gets the source tables, puts all rows that are left of each range, and ends the job. The
-- operator is that of the store, and `tables` are the store's tables as the step begins.
unfoldable pub finish : Operator → (tables : Tables) → FinishAsk → Course (StepEnd FinishedJob)
finish merge tables ask =
    calls_each (gets_tables ask.attempt.sources)
    (unless_refused ask.worker ask.attempt ask.refusal (puts_and_ends ask (tables_left merge tables ask)))
