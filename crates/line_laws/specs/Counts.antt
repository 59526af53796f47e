-- The law on counts: each attempt is claimed once, and each job is finished once and committed once.
use Rattle.std.specs.Prelude.{◌≢◌, ℕ, ◌||◌, Bool, IsTrue, List}
use Rattle.std.specs.List.{AllByRecursion}
use Rattle.row_model.specs.Lists.{Pairs}
use Rattle.fleet_model.specs.Jobs.{Job, Jobs, Compacted, has_status, is_finished, contains}
use Rattle.fleet_model.specs.Store.{Store, stored_jobs}
use Rattle.course_laws.specs.Histories.{finished_jobs, committed_jobs}

-- The job waits for its commit, or it is completed or failed.
abbrev pub is_past_work : Job → Bool
is_past_work job = has_status Compacted job || is_finished job.status

-- A stored job that was finished never runs again, and one that was committed is completed or failed for good.
abbrev pub IsCounted : (finished committed : List ℕ) → Job → Type 0
IsCounted finished committed job =
    (IsTrue (contains finished job.id) → IsTrue (is_past_work job))
    × (IsTrue (contains committed job.id) → IsTrue (is_finished job.status))

-- No job is twice among those that were finished, nor among those that were committed, and the stored jobs fit both.
pub record AreCounted (finished committed : List ℕ) (jobs : Jobs) : Type 0 where
  pub finished_once : Pairs (λ a b. a ≢ b) finished
  pub committed_once : Pairs (λ a b. a ≢ b) committed
  pub each : AllByRecursion (IsCounted finished committed) jobs

-- So it is with the jobs that the history finishes and commits.
abbrev pub JobsCount : Store → Type 0
JobsCount store = AreCounted (finished_jobs store.history) (committed_jobs store.history) (stored_jobs store)
