-- The law on counts over runs: no attempt is claimed twice, and no job is finished or committed twice.
use Rattle.std.specs.Prelude.{◌≢◌, List}
use Rattle.row_model.specs.Lists.{Pairs}
use Rattle.row_model.specs.Fold.{Operator}
use Rattle.fleet_model.specs.History.{Entry}
use Rattle.step_model.specs.Entries.{claimed_attempts}
use Rattle.course_laws.specs.Histories.{finished_jobs, committed_jobs}
use Rattle.script_model.specs.States.{State}
use Rattle.line_laws.specs.States.{StateKeeps}

-- The claims that took effect claim no attempt twice. The finishes that took effect finish no job twice, and the polls
-- that took effect complete no finished job twice.
pub record CountsOnce (history : List Entry) : Type 0 where
  pub claims : Pairs (λ a b. a ≢ b) (claimed_attempts history)
  pub finishes : Pairs (λ a b. a ≢ b) (finished_jobs history)
  pub commits : Pairs (λ a b. a ≢ b) (committed_jobs history)

-- So it is in each state that keeps the invariant, and so after each line and each step of a settle line.
abbrev pub JobsCountOnce : Type 0
JobsCountOnce = (merge : Operator) (s : State) → StateKeeps merge s → CountsOnce s.store.history
