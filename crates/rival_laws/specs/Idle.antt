-- The laws on stores without active jobs.
use Rattle.std.specs.Prelude.{◌≡◌, ℕ, Bool, true, false}
use Rattle.std.specs.List.{AllByRecursion}
use Rattle.row_model.specs.Fold.{Operator}
use Rattle.fleet_model.specs.Jobs.{is_active}
use Rattle.fleet_model.specs.History.{Party, Submit, Polled}
use Rattle.fleet_model.specs.Store.{stored_jobs}
use Rattle.fleet_model.specs.Exchanges.{Exchange, PutsRecords}
use Rattle.step_model.specs.Past.{World}
use Rattle.step_model.specs.Lawful.{Lawful}
use Rattle.step_model.specs.Rivals.{Caller, Rivals, Strike, MayStrike, after_call}
use Rattle.step_model.specs.Kept.Keeps.{Keeps}
use Rattle.step_laws.specs.Runs.{CallsKeep}

-- No stored job is active.
abbrev pub NoneActive : World → Type 0
NoneActive world = AllByRecursion (λ job. is_active job ≡ false) (stored_jobs world.store)

-- True if the call neither submits jobs nor is the put of a poll. So a worker's calls bring no job.
abbrev pub brings_no_job : Exchange → Bool
brings_no_job (PutsRecords version (Submit specs) epoch jobs) = false
brings_no_job (PutsRecords version (Polled change) epoch jobs) = false
brings_no_job _ = true

-- A lawful call that brings no job makes no job active, whoever makes it and whether a fault strikes it or not.
abbrev pub CallStaysIdle : Operator → Type 0
CallStaysIdle merge = (x : Exchange) (line : ℕ) (party : Party) (strike : Strike) (world : World) → Keeps merge world
    → brings_no_job x ≡ true → Lawful merge party world x → MayStrike x world strike
    → NoneActive world → NoneActive (after_call line party x strike world)

-- So do calls of others that bring no job, if every lawful call keeps the invariant. After the coordinator's
-- last poll left no active job, all others are workers.
pub record StaysIdle : Type 0 where
  pub call : (merge : Operator) → CallStaysIdle merge
  pub rivals : (who : Caller) (old new : World) → CallsKeep who.merge → Keeps who.merge old
      → (rivals : Rivals who old new)
      → AllByRecursion (λ call. brings_no_job call.exchange ≡ true) rivals.calls → NoneActive old → NoneActive new
