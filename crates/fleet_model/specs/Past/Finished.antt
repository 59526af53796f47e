-- The history alone says whether a job waits for its commit.
use Rattle.std.specs.Prelude.{◌≡◌, ℕ, Bool, true, false, ◌++◌, ◌==◌, if◌then◌else◌, List, [], ◌∷◌, Option, Some, None}
use Rattle.std.specs.List.{AllByRecursion}
use Rattle.fleet_model.specs.Jobs.{contains, has_status, Compacted}
use Rattle.fleet_model.specs.History.{Event, PutRecords, Finish, Polled, Entry, stood}
use Rattle.fleet_model.specs.Store.{Store, stored_jobs}

-- An event may finish the job, which gives true, or end it, which gives false. Any other event gives None.
abbrev pub finishes_job : ℕ → Event → Option Bool
finishes_job job (PutRecords (Finish worker other attempt outputs)) = if job == other then Some true else None
finishes_job job (PutRecords (Polled change)) =
    if contains (change.completed ++ change.failed) job then Some false else None
finishes_job job _ = None

-- The answer of the later of two events if it has one, and otherwise the earlier answer.
abbrev pub later_or : Bool → Option Bool → Bool
later_or earlier None = earlier
later_or earlier (Some finished) = finished

-- The last event that took effect and that finishes or ends the job decides. If there is none, the given
-- answer stays.
abbrev pub finished_after : Bool → List Entry → ℕ → Bool
finished_after finished [] job = finished
finished_after finished (entry ∷ history) job =
    finished_after
    (if stood entry.answer then later_or finished (finishes_job job entry.event) else finished) history job

-- True if the last put that took effect and that finishes or ends the job finishes it.
abbrev pub is_finished_by : List Entry → ℕ → Bool
is_finished_by history job = finished_after false history job

-- A stored job waits for its commit, according to the history, exactly if it is Compacted.
abbrev pub FinishedAreCompacted : Store → Type 0
FinishedAreCompacted store =
    AllByRecursion (λ job. is_finished_by store.history job.id ≡ has_status Compacted job) (stored_jobs store)
