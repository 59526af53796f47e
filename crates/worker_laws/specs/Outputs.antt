-- The law on outputs.
use Rattle.std.specs.Prelude.{◌≡◌, ℕ, ◌-◌, ◌<◌, IsTrue, IfSome, List, Some, slice_get}
use Rattle.row_model.specs.Rows.{Row}
use Rattle.row_model.specs.Fold.{Operator, IsLawful}
use Rattle.row_model.specs.Ranges.{Range}
use Rattle.fleet_model.specs.Nodes.{table_rows}
use Rattle.fleet_model.specs.History.{Worker}
use Rattle.fleet_model.specs.Store.{is_held}
use Rattle.fleet_model.specs.Work.Parties.{Attempt}
use Rattle.step_model.specs.Past.{World}
use Rattle.step_model.specs.Rivals.{Caller}
use Rattle.step_model.specs.Kept.Keeps.{Keeps}
use Rattle.step_model.specs.Fits.{WorkerHolds}
use Rattle.step_model.specs.Courses.CourseRuns.{Gives, Runs}
use Rattle.step_model.specs.Courses.StepEnds.{Reports}
use Rattle.step_model.specs.Steps.OutputSteps.{OutputAsk, Written, with_noted, rows_written, output}
use Rattle.step_laws.specs.Runs.{CallsKeep}
use Rattle.course_laws.specs.Outputs.{DoesRun}
use Rattle.worker_laws.specs.After.{FitsAfter}

-- The range is that of the attempt at this place. Places are counted from 1.
pub record IsRangeAt (a : Attempt) (place : ℕ) (range : Range × List ℕ) : Type 0 where
  pub counted : 0 < place
  pub there : slice_get a.context.ranges (place - 1) ≡ Some range

-- A worker that fits also fits after its output, under a lawful operator and if every lawful call
-- keeps the invariant. The table that it put is noted for the range whose next rows it holds. If the
-- operator refused a fold, the worker fits with the attempts that it ran before.
abbrev pub OutputsKeepFit : Type 0
OutputsKeepFit = (who : Caller) (old : World) (ask : OutputAsk) → CallsKeep who.merge → IsLawful who.merge
    → who.party ≡ Worker ask.worker.number → Keeps who.merge old → WorkerHolds who.merge old ask.worker
    → DoesRun ask.worker ask.attempt → IsRangeAt ask.attempt ask.place ask.range
    → FitsAfter who ask.worker (λ (report : Written). report.attempts) old (output who.merge old.store.tables ask)

-- What is so of an output's report: its table is held and has the next rows of the range, at most as
-- many as were asked for, and it is noted for this range.
pub record OutputSays (merge : Operator) (old new : World) (ask : OutputAsk) (report : Written) (table : ℕ × List Row)
    : Type 0 where
  pub held : IsTrue (is_held new.store table.0)
  pub has : table_rows new.store.tables table.0 ≡ table.1
  pub next : table.1 ≡ rows_written merge old.store.tables ask
  pub noted : report.attempts ≡ with_noted ask.place table.0 ask.attempt ask.worker.attempts

-- A table that an output reports is as `OutputSays` says, under a lawful operator and if every lawful
-- call keeps the invariant.
abbrev pub OutputsSay : Type 0
OutputsSay = (who : Caller) (old : World) (ask : OutputAsk) → CallsKeep who.merge → IsLawful who.merge
    → who.party ≡ Worker ask.worker.number → Keeps who.merge old → WorkerHolds who.merge old ask.worker
    → DoesRun ask.worker ask.attempt → (new : World) (report : Written)
    → Runs who (output who.merge old.store.tables ask) old new (Gives (Reports report))
    → IfSome report.table (OutputSays who.merge old new ask report)
