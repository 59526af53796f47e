-- The law on a worker's own calls.
use Rattle.std.specs.Prelude.{◌≡◌, ℕ, IsTrue, Some, None, ⊤}
use Rattle.std.specs.List.{AllByRecursion, concat}
use Rattle.row_model.specs.Fold.{Operator}
use Rattle.fleet_model.specs.Jobs.{Jobs, contains, job_with}
use Rattle.fleet_model.specs.History.{Party, Worker, RecordChange, Claim, Beat, Finish, Release}
use Rattle.fleet_model.specs.Store.{stored_jobs}
use Rattle.fleet_model.specs.Work.Records.{firsts}
use Rattle.fleet_model.specs.Work.Parties.{LiveWorker, live_attempts}
use Rattle.fleet_model.specs.Exchanges.{Exchange, PutsManifest, PutsRecords, DeletesTable, records_version}
use Rattle.step_model.specs.Past.{World}
use Rattle.step_model.specs.Lawful.{Lawful}
use Rattle.step_model.specs.LawfulRecords.{OfSome}
use Rattle.step_model.specs.Kept.TablesKept.{AreApart}
use Rattle.step_model.specs.Rivals.{after_call}
use Rattle.step_model.specs.Kept.Keeps.{Keeps}
use Rattle.step_model.specs.Fits.{WorkerHolds, noted_tables}

-- What a worker's put of the records has to see to, so that its attempts still fit. `jobs` are the
-- jobs that it puts. A heartbeat names all live attempts and publishes their own contexts. A finish
-- names no table that is noted for a live attempt at another job.
abbrev pub SparesOwn : World → LiveWorker → (jobs : Jobs) → RecordChange → Type 0
SparesOwn world w jobs (Claim worker attempts) = ⊤
SparesOwn world w jobs (Beat worker attempts) =
    AllByRecursion
    (λ a. IsTrue (contains (firsts attempts) a.job)
    × OfSome (λ job. job.context ≡ Some a.context) (job_with a.job jobs))
    (live_attempts (stored_jobs world.store) w)
SparesOwn world w jobs (Finish worker id attempt outputs) =
    AllByRecursion (λ a. (id ≡ a.job → ⊥) → AreApart (concat outputs) (noted_tables a))
    (live_attempts (stored_jobs world.store) w)
SparesOwn world w jobs (Release worker attempts) = ⊤
SparesOwn world w jobs _ = ⊥

-- What a worker's call has to see to. A put of a version that is no longer stored changes nothing. A
-- worker puts no manifest and deletes no table.
abbrev pub IsOwnCall : World → LiveWorker → Exchange → Type 0
IsOwnCall world w (PutsRecords version change epoch jobs) = version ≡ records_version world.store.records
    → SparesOwn world w jobs change
IsOwnCall world w (PutsManifest version change value) = ⊥
IsOwnCall world w (DeletesTable table) = ⊥
IsOwnCall world w _ = ⊤

-- A lawful call of the worker itself keeps what it holds.
abbrev pub OwnCallKeeps : Operator → Exchange → Type 0
OwnCallKeeps merge x = (line : ℕ) (party : Party) (world : World) (w : LiveWorker) → Keeps merge world
    → party ≡ Worker w.number → Lawful merge party world x → IsOwnCall world w x
    → WorkerHolds merge world w → WorkerHolds merge (after_call line party x None world) w

-- Every lawful call that a worker makes keeps what it holds.
abbrev pub OwnCallsKeep : Operator → Type 0
OwnCallsKeep merge = (x : Exchange) → OwnCallKeeps merge x
