-- What a line of a script does with a fleet.
use Rattle.std.specs.Prelude.{◌≡◌, ℕ, Bool, true, false, List}
use Rattle.row_model.specs.Fold.{Operator}
use Rattle.script_model.specs.Script.{Line, StartCoordinator, StartWorker, KillCoordinator, KillWorker, StopCoordinator, StopWorker, FlushRows, SubmitJob, SubmitDrain, SubmitFull, Poll, CommitOnly, ClaimJobs, Heartbeat, Output, FinishJob, ShowTrees, ShowJobs, ShowTables, Dump, ReadKey, Sweep, Scan}
use Rattle.script_model.specs.States.{Inputs, State}
use Rattle.script_model.specs.LineRuns.{LineCourse, run_line}
use Rattle.script_model.specs.LineSteps.{OneCourse}
use Rattle.fleet_lines.specs.Fleets.{FleetParts, Stands, state_of}

-- The run of this course in the prepared state gives the reply and leads to the new fleet, which stands.
pub record RunsAlone (merge : Operator) (number : ℕ) (prepared : State) (course : LineCourse) (old new : FleetParts)
    (answer : List ℕ) : Type 0 where
  pub ends : run_line number prepared course ≡ (answer, state_of new)
  pub stands : Stands merge new
  pub same_name : new.last_name ≡ old.last_name

-- One course of the line takes the old fleet to the new one with this reply, and the new fleet stands.
pub record Serves (inputs : Inputs) (number : ℕ) (line : Line) (old new : FleetParts) (answer : List ℕ) : Type 0 where
  pub course : OneCourse inputs number (state_of old) line answer (state_of new)
  pub stands : Stands inputs.merge new
  pub same_name : new.last_name ≡ old.last_name

-- A worker does lines of this kind.
abbrev pub works : Line → Bool
works (StartWorker n release) = true
works (KillWorker n) = true
works (StopWorker n) = true
works (Heartbeat n) = true
works (ClaimJobs n) = true
works (Output n job range rows) = true
works (FinishJob n job) = true
works line = false

-- A worker, the writer or the submitter does lines of this kind.
abbrev pub works_or_asks : Line → Bool
works_or_asks (FlushRows name segment floor tick rows) = true
works_or_asks (SubmitJob segment destination sources) = true
works_or_asks (SubmitDrain segment sources) = true
works_or_asks (SubmitFull segment) = true
works_or_asks line = works line

-- True if lines of this kind call the store of the fleet, and run one course.
abbrev pub calls_store : Line → Bool
calls_store (StartCoordinator n) = true
calls_store (KillCoordinator n) = true
calls_store (StopCoordinator n) = true
calls_store (Poll n) = true
calls_store (CommitOnly n) = true
calls_store Sweep = true
calls_store line = works_or_asks line

-- The same, or lines of this kind look at the store and call nothing.
abbrev pub looks_or_calls : Line → Bool
looks_or_calls ShowTrees = true
looks_or_calls ShowJobs = true
looks_or_calls (ShowTables segment node) = true
looks_or_calls (Dump segment node) = true
looks_or_calls (ReadKey segment key seq now) = true
looks_or_calls (Scan segment from to seq now limit) = true
looks_or_calls line = calls_store line
