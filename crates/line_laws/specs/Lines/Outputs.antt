-- The law on outputs: a job that finished has what one merge makes, whichever attempts wrote it.
use Rattle.std.specs.Prelude.{◌≡◌, false, IsTrue, Some}
use Rattle.row_model.specs.Fold.{Operator}
use Rattle.fleet_model.specs.Jobs.{Job, Compacted, has_status, job_with}
use Rattle.fleet_model.specs.Store.{stored_jobs}
use Rattle.fleet_model.specs.Invariants.JobsFit.{was_joined}
use Rattle.worker_laws.specs.FinishReports.{OneMerge}
use Rattle.script_model.specs.States.{State}
use Rattle.line_laws.specs.States.{StateKeeps}

-- In each state that keeps the invariant each job that finished and waits for its commit has such outputs,
-- however often it was taken over.
abbrev pub OutputsAreWhole : Type 0
OutputsAreWhole = (merge : Operator) (s : State) (job : Job) → StateKeeps merge s
    → job_with job.id (stored_jobs s.store) ≡ Some job → IsTrue (has_status Compacted job)
    → was_joined s.store.history job.id ≡ false → OneMerge merge s.store job
