-- The law on finished jobs: the history alone says which jobs wait for their commit.
use Rattle.std.specs.Prelude.{◌≡◌, ℕ, IsTrue, map, filter}
use Rattle.row_model.specs.Fold.{Operator}
use Rattle.fleet_model.specs.Jobs.{contains, ids}
use Rattle.fleet_model.specs.Past.Finished.{is_finished_by, FinishedAreCompacted}
use Rattle.fleet_model.specs.Store.{Store, stored_jobs}
use Rattle.step_model.specs.Steps.PollSteps.{PollAsk}
use Rattle.script_model.specs.States.{State}
use Rattle.line_laws.specs.States.{StateKeeps}
use Rattle.line_laws.specs.Lines.PollRuns.{input_at}
use Rattle.coordinator_laws.specs.PollSays.{all_verdicts}

-- The stored jobs that are Compacted are those that the history finished, and each job that it finished is
-- stored. A poll over this store gives its verdicts on exactly these jobs, in the order of their ids.
pub record FinishedWait (store : Store) : Type 0 where
  pub compacted : FinishedAreCompacted store
  pub stored : (id : ℕ) → IsTrue (is_finished_by store.history id) → IsTrue (contains (ids (stored_jobs store)) id)
  pub judged : (ask : PollAsk)
      → map (λ verdict. verdict.0) (all_verdicts ask.commits_only (input_at ask store))
      ≡ filter (is_finished_by store.history) (ids (stored_jobs store))

-- So it is in each state that keeps the invariant.
abbrev pub FinishedJobsWait : Type 0
FinishedJobsWait = (merge : Operator) (s : State) → StateKeeps merge s → FinishedWait s.store
