-- How a poll puts the records.
use Rattle.std.specs.Prelude.{◌≡◌, ℕ, false, if◌then◌else◌, [], Result, Ok, Err}
use Rattle.fleet_model.specs.Exchanges.{PutsRecords}
use Rattle.fleet_model.specs.History.{Polled}
use Rattle.fleet_model.specs.Jobs.{trimmed_jobs}
use Rattle.fleet_model.specs.Store.{Records}
use Rattle.fleet_model.specs.Work.PollStates.{PollState}
use Rattle.fleet_model.specs.Work.Polls.{change_of, is_nothing}
use Rattle.step_model.specs.Courses.Course.{Course, Ends, gets_records, puts_records}
use Rattle.step_model.specs.Courses.StepEnds.{StepEnd, Reports}
use Rattle.step_model.specs.Steps.PollSteps.{merged_into, records_or_none, unless_fenced}
use Rattle.step_model.specs.Views.{StoreView}
use Rattle.fleet_rows.specs.declared.errors.SlateDBError.{SlateDBError}
use Rattle.fleet_tree.specs.Trees.{RunFlushes}
use Rattle.fleet_book.specs.States.{own_jobs}
use Rattle.fleet_store.specs.Asks.{MayCall}
use Rattle.fleet_store.specs.Records.{DescribeTables}
use Rattle.fleet_step.specs.Steps.{Leads}
use Rattle.fleet_poll.specs.declared.poll.Poll.{Poll}
use Rattle.fleet_poll.specs.Polls.{poll_of}

-- The records that a poll got last, with this epoch. Its puts are for their version.
abbrev pub got_with : Poll → (epoch : ℕ) → Records
got_with poll epoch = record { version = poll.state.compactions.id; epoch = epoch; jobs = [] }

-- One put of a poll, if it changed a job. A refused put goes on with `again`.
abbrev pub puts_once : PollState → Records → (again : ℕ → Course (StepEnd PollState)) → Course (StepEnd PollState)
puts_once p got again =
    if is_nothing (change_of p) then Ends (Reports p)
    else puts_records got (Polled (change_of p)) got.epoch (trimmed_jobs p.jobs) (Ends (Reports p)) again

-- A poll gets the records again and goes on with them, unless it is fenced.
abbrev pub gets_newer : (epoch : ℕ) → (next : Records → Course (StepEnd PollState)) → Course (StepEnd PollState)
gets_newer epoch next =
    gets_records (λ newer. let got = records_or_none newer in unless_fenced epoch got.epoch (next got))

-- The put of the poll is lawful whatever calls of others come before it, if the poll changed a job.
abbrev pub MayRecord : StoreView → Poll → (got : ℕ) → Type 0
MayRecord view poll got =
    (flushes : RunFlushes) → let p = poll_of flushes poll in is_nothing (change_of p) ≡ false
    → MayCall view (λ met. PutsRecords poll.state.compactions.id (Polled (change_of p)) got (trimmed_jobs p.jobs))

-- The poll got newer records with this epoch and merged them. The calls lead to what comes next.
pub record MergesNewer (epoch : ℕ) (old new : StoreView) (before after : Poll) (got : ℕ) : Type 0 where
  pub records : Records
  pub version : after.state.compactions.id ≡ records.version
  pub epoch_is : got ≡ records.epoch
  pub merged : (flushes : RunFlushes) → poll_of flushes after ≡ merged_into (poll_of flushes before) records.jobs
  pub described : DescribeTables (own_jobs before.state) old.world.store
      → DescribeTables (own_jobs after.state) new.world.store
  pub leads : (next : Records → Course (StepEnd PollState)) → Leads (gets_newer epoch next) old (next records) new

-- The poll, if the put did not fail.
abbrev pub with_poll : Result Unit SlateDBError → Poll → Result Poll SlateDBError
with_poll (Ok done) poll = Ok poll
with_poll (Err error) poll = Err error
