-- What a poll puts.
use Rattle.std.specs.Prelude.{◌≡◌, ℕ, List, true, false, Option, Some, None}
use Rattle.fleet_model.specs.History as model
use Rattle.fleet_model.specs.Jobs.{trimmed_jobs}
use Rattle.fleet_model.specs.Store.{Store}
use Rattle.fleet_model.specs.Work.Polls.{change_of, is_nothing}
use Rattle.fleet_tree.specs.Trees.{RunFlushes}
use Rattle.fleet_jobs.specs.Parts.JobParts.{JobParts}
use Rattle.fleet_jobs.specs.Jobs.{jobs_of}
use Rattle.fleet_book.specs.States.{own_jobs}
use Rattle.fleet_book.specs.declared.compactions.Compactions.{Compactions}
use Rattle.fleet_history.specs.Changes.{record_change_of}
use Rattle.fleet_store.specs.Records.{DescribeTables}
use Rattle.fleet_poll.specs.declared.poll.Poll.{Poll}
use Rattle.fleet_poll.specs.Polls.{poll_of}
use Rattle.fleet_change.specs.declared.put.PollPut.{PollPut}

-- The records have this epoch and the model's trim of the jobs. They describe no table that the jobs do not.
pub record Trims (jobs : List JobParts) (epoch : ℕ) (value : Compactions) : Type 0 where
  pub sets : value.compactor_epoch ≡ epoch
  pub kept : jobs_of value.jobs ≡ trimmed_jobs (jobs_of jobs)
  pub described : (store : Store) → DescribeTables jobs store → DescribeTables value.jobs store

-- The put records what the poll did. It has the epoch that is given.
pub record RecordsPoll (poll : Poll) (epoch : ℕ) (put : PollPut) : Type 0 where
  pub some : (flushes : RunFlushes) → is_nothing (change_of (poll_of flushes poll)) ≡ false
  pub at : put.version ≡ poll.state.compactions.id
  pub why : (flushes : RunFlushes) → record_change_of put.why ≡ model.Polled (change_of (poll_of flushes poll))
  pub value : Trims (own_jobs poll.state) epoch put.value

-- The put of the records by the poll. There is none if the poll changed no job.
abbrev pub IsRecordsPut : Poll → (epoch : ℕ) → Option PollPut → Type 0
IsRecordsPut poll epoch None = (flushes : RunFlushes) → is_nothing (change_of (poll_of flushes poll)) ≡ true
IsRecordsPut poll epoch (Some put) = RecordsPoll poll epoch put
