-- How a worker writes one table of a job.
use Rattle.std.specs.Prelude.{◌≡◌, ◌==◌, ◌-◌, ◌<◌, ◌≤◌, ◌++◌, ◌⊎◌, ℕ, Bool, true, false, if◌then◌else◌, List, [], ◌∷◌, length, map, slice_get, IfOk, IfSome, Option, Some, None, option_map, Result, Ok, Err}
use Rattle.row_model.specs.Rows.{Row}
use Rattle.fleet_model.specs.Handles.{describe}
use Rattle.step_model.specs.Courses.Course.{Course}
use Rattle.step_model.specs.Courses.StepEnds.{StepEnd, Reports}
use Rattle.step_model.specs.Steps.OutputSteps.{OutputAsk, Written, output, rows_written, unwritten}
use Rattle.step_model.specs.Views.{StoreView}
use Rattle.fleet_rows.specs.declared.errors.MergeOperatorError.TheVariants.{Callback}
use Rattle.fleet_rows.specs.declared.errors.SlateDBError.{SlateDBError}
use Rattle.fleet_rows.specs.declared.errors.SlateDBError.TheVariants.{MergeOperator}
use Rattle.fleet_tree.specs.Handles.{handle_of}
use Rattle.fleet_tree.specs.declared.handle.SsTableHandle.{SsTableHandle}
use Rattle.fleet_range.specs.Keys.{range_of}
use Rattle.fleet_plan.specs.Parts.{Part}
use Rattle.fleet_jobs.specs.Contexts.{noted_range, settings_in}
use Rattle.fleet_store.specs.Handles.{IsDescribed}
use Rattle.fleet_output.specs.Gets.{GotUntil, ids_in}
use Rattle.fleet_output.specs.Next.{RefusesNext}
use Rattle.fleet_step.specs.Steps.{StepRan}
use Rattle.fleet_worker.specs.Claims.{put_part, without_parts}
use Rattle.fleet_worker.specs.Workers.{AttemptParts, WorkerParts, attempt_of, live_of, ranges_at, run_at}

-- The worker runs the job, and its attempt has a range at this place. Places are counted from 1.
abbrev pub RunsRange : WorkerParts → (job place : ℕ) → Type 0
RunsRange w job place = (count : ℕ) × ((ranges_at w.attempts job ≡ Some count) × ((1 ≤ place) × (place ≤ count)))

-- What an output of this range of the attempt is asked with.
abbrev pub asked_output : (moment : ℕ) → WorkerParts → AttemptParts → (place : ℕ) → Part → (rows : ℕ)
    → (refusal : Option (List ℕ)) → OutputAsk
asked_output moment w a place part rows refusal = record {
  moment = moment;
  worker = live_of w;
  attempt = attempt_of a;
  place = place;
  range = noted_range part;
  rows = rows;
  refusal = refusal;
}

-- The end of an output of these rows with this answer, after which the worker runs these attempts.
abbrev pub output_ends : List Row → List AttemptParts → Option SsTableHandle → StepEnd Written
output_ends rows attempts answer =
    Reports (record { table = option_map (λ handle. (handle.id, rows)) answer; attempts = map attempt_of attempts })

-- The part is the range of the attempt at this place.
pub record IsPartAt (a : AttemptParts) (place : ℕ) (part : Part) : Type 0 where
  pub counted : 0 < place
  pub there : slice_get a.ctx.ranges (place - 1) ≡ Some part

-- The course of an output of this range, given what the operator refused.
abbrev pub output_of : StoreView → OutputAsk → Course (StepEnd Written)
output_of view ask = output view.who.merge view.world.store.tables ask

-- The rows that it writes.
abbrev pub written_rows : StoreView → OutputAsk → List Row
written_rows view ask = rows_written view.who.merge view.world.store.tables ask

-- The output with this result came no further than the gets of the source tables that meet the range.
abbrev pub EndsInGets : {A : Type 0} → AttemptParts → Part → (old new : StoreView) → Result A SlateDBError → Type 0
EndsInGets a part old new (Ok answer) = ⊥
EndsInGets a part old new (Err e) = GotUntil (ids_in (range_of part.range) a.tables) old new e

-- ---- the table is noted

-- The ranges after one more table is noted for the range at this place.
abbrev pub noted_parts : (place : ℕ) → SsTableHandle → List Part → List Part
noted_parts place table [] = []
noted_parts place table (part ∷ parts) =
    if place == 1 then record part { output_ssts = part.output_ssts ++ table ∷ [] } ∷ parts
    else part ∷ noted_parts (place - 1) table parts

-- The attempt after one more table is noted for its range at this place.
abbrev pub noting_part : (place : ℕ) → SsTableHandle → AttemptParts → AttemptParts
noting_part place table a = record a { ctx = record a.ctx { ranges = noted_parts place table a.ctx.ranges } }

-- The attempts of a worker after one more table is noted for a range of this attempt.
abbrev pub after_noting : (place : ℕ) → SsTableHandle → AttemptParts → List AttemptParts → List AttemptParts
after_noting place table a attempts = put_part (noting_part place table a) (without_parts (a.job ∷ []) attempts)

-- The attempts of a worker after an output with this answer.
abbrev pub next_after : WorkerParts → AttemptParts → (place : ℕ) → Option SsTableHandle → List AttemptParts
next_after w a place None = w.attempts
next_after w a place (Some table) = after_noting place table a w.attempts

-- ---- refusals

-- True if the operator refused a fold.
abbrev pub refuses_fold : SlateDBError → Bool
refuses_fold (MergeOperator cause) = true
refuses_fold _ = false

-- True if the result is such a refusal.
abbrev pub is_refusal : {A : Type 0} → Result A SlateDBError → Bool
is_refusal (Ok answer) = false
is_refusal (Err e) = refuses_fold e

-- The attempts that a worker runs after an output at the job with this error: not the one at the job if the operator
-- refused a fold.
abbrev pub left_by : {A : Type 0} → Result A SlateDBError → (job : ℕ) → List AttemptParts → List AttemptParts
left_by result job attempts = if is_refusal result then without_parts (job ∷ []) attempts else attempts

-- ---- runs

-- An output of a range of the attempt ran that had this answer for its table. After it the worker runs the `next`
-- attempts.
module _ (moment : ℕ) (w : WorkerParts) (place rows : ℕ) (old new : StoreView) where
  -- If fewer rows are written than asked for, no fold refuses in what is left of the range.
  abbrev pub WritesEnough : AttemptParts → Part → Type 0
  WritesEnough a part = length (written_rows old (asked_output moment w a place part rows None)) < rows
      → (unwritten old.who.merge old.world.store.tables (attempt_of a) (noted_range part)).whole ≡ true

  -- A fold refuses in what is left of the range, and this is the operator's message. If there is no message, no fold
  -- refuses in the rows that are written, or the output came no further than the gets.
  abbrev pub IsReason : {A : Type 0} → (a : AttemptParts) (part : Part) (result : Result A SlateDBError)
      (message : Option (List ℕ)) → Type 0
  IsReason a part result None = WritesEnough a part ⊎ EndsInGets a part old new result
  IsReason a part result (Some message) = RefusesNext old.who.merge old.world.store.tables (settings_in a.ctx)
      a.tables part rows (MergeOperator (Callback message))

  -- What was refused is a refusal of the operator. The table of an answer is described by the rows that were written.
  pub record RangeRan {A : Type 0} (table_in : A → Option SsTableHandle) (next : List AttemptParts)
      (result : Result A SlateDBError) (a : AttemptParts) (part : Part) : Type 0 where
    pub refusal : Option (List ℕ)
    pub because : IsReason a part result refusal
    pub described : IfOk result (λ answer. IfSome (table_in answer)
        (λ handle. handle_of handle
        ≡ describe handle.id (written_rows old (asked_output moment w a place part rows refusal))))
    pub ran : StepRan
        (λ answer. output_ends (written_rows old (asked_output moment w a place part rows refusal)) next
        (table_in answer))
        (output_of old (asked_output moment w a place part rows refusal)) old new result

  -- The attempts that the worker runs after this result: those before it, or those of its table.
  abbrev pub next_by : {A : Type 0} → (A → Option SsTableHandle) → AttemptParts → Result A SlateDBError
      → List AttemptParts
  next_by table_in a (Ok answer) = next_after w a place (table_in answer)
  next_by table_in a (Err error) = w.attempts

  -- So ran an output of the range at this place of this attempt.
  abbrev pub Writes : AttemptParts → Result (Option SsTableHandle) SlateDBError → Type 0
  Writes a result =
      (part : Part) → IsPartAt a place part
      → RangeRan (λ answer. answer) (next_by (λ answer. answer) a result) result a part

  -- So ran an output of the range at this place of the attempt at the job.
  pub record RanAt {A : Type 0} (table_in : A → Option SsTableHandle) (next : AttemptParts → List AttemptParts)
      (result : Result A SlateDBError) (job : ℕ) : Type 0 where
    pub attempt : AttemptParts
    pub runs : run_at w.attempts job ≡ Some attempt
    pub part : Part
    pub at : IsPartAt attempt place part
    pub ran : RangeRan table_in (next attempt) result attempt part

  -- So ran an output after which the worker runs these attempts.
  abbrev pub OutputRan : (next : List AttemptParts) → Result (Option SsTableHandle) SlateDBError → (job : ℕ) → Type 0
  OutputRan next result job = RanAt (λ answer. answer) (λ a. next) result job

-- ---- the parts of an output

-- The table of an answer with the attempts that the worker runs then.
abbrev pub table_with : Option (SsTableHandle × List AttemptParts) → Option SsTableHandle
table_with answer = option_map (λ answer. answer.0) answer

-- The output ran, with this answer.
abbrev pub OutputsRan : (moment : ℕ) → WorkerParts → (place rows : ℕ) → (old new : StoreView)
    → Result (Option (SsTableHandle × List AttemptParts)) SlateDBError → (job : ℕ) → Type 0
OutputsRan moment w place rows old new result job = RanAt moment w place rows old new table_with
    (λ a. next_by moment w place rows old new table_with a result) result job

-- The table is described as it was put, and the attempts are those after it is noted.
pub record HasNoted (w : WorkerParts) (job place : ℕ) (new : StoreView) (table : SsTableHandle)
    (attempts : List AttemptParts) : Type 0 where
  pub attempt : AttemptParts
  pub runs : run_at w.attempts job ≡ Some attempt
  pub noted : attempts ≡ after_noting place table attempt w.attempts
  pub described : IsDescribed new.world.store.tables table

-- So it is if the answer has a table.
abbrev pub IsAnswered : WorkerParts → (job place : ℕ) → StoreView
    → Result (Option (SsTableHandle × List AttemptParts)) SlateDBError → Type 0
IsAnswered w job place new result =
    IfOk result (λ answer. IfSome answer (λ noted. HasNoted w job place new noted.0 noted.1))
