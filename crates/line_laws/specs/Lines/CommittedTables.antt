-- The laws on the tables of jobs: outputs note what they print, finishes print what they name, and commits put it.
use Rattle.std.specs.Prelude.{◌≡◌, ℕ, ◌==◌, Bool, true, false, if◌then◌else◌, List, [], ◌∷◌, ◌++◌, map, take, Option, Some, None, IfSome, ⊤, codes}
use Rattle.std.specs.List.{concat}
use Rattle.std.specs.Option.{unwrap_or}
use Rattle.row_model.specs.Lists.{IsPrefixOf}
use Rattle.row_model.specs.Rows.{Row}
use Rattle.row_model.specs.Fold.{Operator}
use Rattle.row_model.specs.JobRows.{job_rows}
use Rattle.row_model.specs.Ranges.{Range}
use Rattle.fleet_model.specs.Nodes.{Tables, Trees}
use Rattle.fleet_model.specs.Jobs.{Job, job_with}
use Rattle.fleet_model.specs.History.{Event, PutRecords, Finish, Join, Entry, stood}
use Rattle.fleet_model.specs.Store.{Store, stored_jobs}
use Rattle.fleet_model.specs.Trees.{stepped_in}
use Rattle.fleet_model.specs.Invariants.JobsFit.{was_joined}
use Rattle.fleet_model.specs.Work.Attempts.{noted_rows, source_rows}
use Rattle.fleet_model.specs.Work.Parties.{Attempt, LiveWorker, worker_with}
use Rattle.step_model.specs.Past.{World}
use Rattle.step_model.specs.Steps.OutputSteps.{with_noted}
use Rattle.commit_laws.specs.After.{trees_after}
use Rattle.commit_laws.specs.StepForms.{RunReplaces}
use Rattle.script_model.specs.Script.{Output, FinishJob}
use Rattle.script_model.specs.States.{Inputs, State}
use Rattle.script_model.specs.Replies.{reply, ranges_text, tables_by_range, output_reply}
use Rattle.script_model.specs.LineCourses.{job_at, range_at}
use Rattle.script_model.specs.LineSteps.{OneCourse}
use Rattle.script_model.specs.Refusals.{left_in}
use Rattle.script_model.specs.Lines.Settles.{is_ok}
use Rattle.line_laws.specs.Ran.{CourseRan}
use Rattle.line_laws.specs.Lines.PollLines.{poll_of, PollRan}

-- ---- outputs

-- The table that an output puts, if it puts one, and its rows.
abbrev pub put_by : Option (ℕ × List Row) → Tables
put_by None = []
put_by (Some table) = table ∷ []

abbrev pub rows_of : Option (ℕ × List Row) → List Row
rows_of None = []
rows_of (Some table) = table.1

-- The attempts of a worker after an output for the range at this place of the attempt. The table that it put is noted
-- for the range.
abbrev pub after_output : (place : ℕ) → Option (ℕ × List Row) → Attempt → List Attempt → List Attempt
after_output place None a attempts = attempts
after_output place (Some table) a attempts = with_noted place table.0 a attempts

-- A live worker put the next rows of the range as a table, at most as many as asked for, and the reply has the table.
-- The worker noted it for the range. If no row was left, it put none. Both objects stay.
pub record OutputRan (inputs : Inputs) (n job place rows : ℕ) (old : State) (answer : List ℕ) (new : State)
    : Type 0 where
  pub worker : LiveWorker
  pub attempt : Attempt
  pub range : Range × List ℕ
  pub ran : range_at old n job place ≡ Some (worker, attempt, range)
  pub table : Option (ℕ × List Row)
  pub printed : answer ≡ output_reply table
  pub has : rows_of table ≡ take rows (left_in inputs old attempt range).rows
  pub put : new.store.tables ≡ old.store.tables ++ put_by table
  pub manifest : new.store.manifest ≡ old.store.manifest
  pub records : new.store.records ≡ old.store.records
  pub runs : worker_with n new.parties
      ≡ Some (record worker { attempts = after_output place table attempt worker.attempts })

-- Each course of an output that is not refused does so, from any state.
abbrev pub OutputsNote : Type 0
OutputsNote = (inputs : Inputs) (number : ℕ) (old new : State) (n job place rows : ℕ) (answer : List ℕ)
    → OneCourse inputs number old (Output n job place rows) answer new → is_ok answer ≡ true
    → OutputRan inputs n job place rows old answer new

-- ---- the outputs that a history names

-- The tables that the event names as the outputs of the job, range by range, if it finishes the job.
abbrev pub finished_with : ℕ → Event → Option (List (List ℕ))
finished_with id (PutRecords (Finish worker job attempt outputs)) = if job == id then Some outputs else None
finished_with id event = None

-- What is named after these entries, given what was named before them.
abbrev pub named_after : List (List ℕ) → List Entry → ℕ → List (List ℕ)
named_after outputs [] id = outputs
named_after outputs (entry ∷ history) id =
    named_after (if stood entry.answer then unwrap_or (finished_with id entry.event) outputs else outputs) history id

-- The tables that the last finish of the job named which took effect, range by range. There are none before.
abbrev pub outputs_named : List Entry → ℕ → List (List ℕ)
outputs_named history id = named_after [] history id

-- ---- finishes

-- Range by range, the old tables are a prefix of the new ones.
abbrev pub BeginWith : (old new : List (List ℕ)) → Type 0
BeginWith [] [] = ⊤
BeginWith [] (tables ∷ new) = ⊥
BeginWith (tables ∷ old) [] = ⊥
BeginWith (tables ∷ old) (all ∷ new) = IsPrefixOf tables all × BeginWith old new

-- A finish replied with tables for each range, and the history names these for the job from then on. They begin with
-- the tables that the attempt had noted, and so with those of the published context of its job, if there was one. They
-- have all rows that the settings of the attempt make of its source tables.
pub record FinishNamed (merge : Operator) (n job : ℕ) (old : State) (answer : List ℕ) (new : State) : Type 0 where
  pub worker : LiveWorker
  pub attempt : Attempt
  pub ran : job_at old n job ≡ Some (worker, attempt)
  pub outputs : List (List ℕ)
  pub printed : answer ≡ reply (codes "ok" ∷ ranges_text outputs ∷ [])
  pub named : outputs_named new.store.history attempt.job ≡ outputs
  pub noted : BeginWith (tables_by_range attempt.context) outputs
  pub published : (stored : Job) → job_with attempt.job (stored_jobs old.store) ≡ Some stored
      → IfSome stored.context (λ context. BeginWith (tables_by_range context) outputs)
  pub rows : job_rows merge attempt.context.settings (source_rows new.store.tables attempt.sources)
      ≡ record { rows = noted_rows new.store.tables (concat outputs); whole = true }

-- Each course of a finish that is not refused does so.
abbrev pub FinishesName : Type 0
FinishesName = (inputs : Inputs) (old new : State) (n job : ℕ) (answer : List ℕ)
    → CourseRan inputs old (FinishJob n job) answer new → is_ok answer ≡ true
    → FinishNamed inputs.merge n job old answer new

-- ---- commits

-- The first commit of a finished job over these trees puts one run in place of the job's sources. The run has exactly
-- the tables that the history names for the job, in the order of the ranges.
pub record NamedRun (old : Store) (at : World) (trees : Trees) (id : ℕ) : Type 0 where
  pub job : Job
  pub stored : job_with id (stored_jobs old) ≡ Some job
  pub run : was_joined at.store.history id ≡ false
      → RunReplaces trees
      (stepped_in at.store.tables (Join id) job.spec (concat (outputs_named old.history id)) trees) job.spec
      (concat (outputs_named old.history id))

-- A poll commits each of its jobs so, over the trees that the commits before it left.
pub record CommitsNamed (inputs : Inputs) (number : ℕ) (commits_only : Bool) (n : ℕ) (old : State) (answer : List ℕ)
    (new : State) : Type 0 where
  pub poll : PollRan inputs number commits_only n old answer new
  pub each : (first : List ℕ) (id : ℕ) (rest : List ℕ) → first ++ id ∷ rest ≡ poll.p.done
      → NamedRun old.store poll.right.put.at
      (trees_after poll.right.put.at poll.right.put.fits.specs (map Join first)) id

-- Each course of a poll that is not refused does so.
abbrev pub NamedTablesAreCommitted : Type 0
NamedTablesAreCommitted = (inputs : Inputs) (old new : State) (commits_only : Bool) (n : ℕ) (answer : List ℕ)
    (ran : CourseRan inputs old (poll_of commits_only n) answer new)
    → is_ok answer ≡ true → CommitsNamed inputs ran.number commits_only n old answer new
