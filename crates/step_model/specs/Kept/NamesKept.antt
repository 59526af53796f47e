-- What lawful calls keep of draws, of the names of jobs, and of attempts.
use Rattle.std.specs.Prelude.{◌≡◌, ◌≢◌, ℕ, ◌+◌, ◌<◌, ◌≤◌, false, ◌||◌, IsTrue, IfSome, List, length, is_none}
use Rattle.std.specs.List.{AllByRecursion}
use Rattle.row_model.specs.Lists.{Pairs}
use Rattle.fleet_model.specs.Jobs.{JobSpec, Jobs, Submitted, Scheduled, has_status, job_with, number_of, contains, trimmed_jobs, drawn_base}
use Rattle.fleet_model.specs.History.{Entry, stood}
use Rattle.fleet_model.specs.Store.{stored_jobs}
use Rattle.fleet_model.specs.Invariants.AttemptsFit.{was_beaten}
use Rattle.step_model.specs.Past.{World}
use Rattle.step_model.specs.Entries.{drawn_jobs, drawn_tables, mentioned_in, was_named, attempts_in, claimed_attempts, planned_attempts}
use Rattle.step_model.specs.Kept.Faithful.{Faithful}

-- ---- draws

-- The numbers of draws rise up to the two counters, and the draws are no more than the entries. So
-- no id is drawn twice.
pub record DrawsKept (jobs_drawn tables_drawn : ℕ) (history : List Entry) : Type 0 where
  pub jobs_rise : Pairs (λ a b. number_of a < number_of b) (drawn_jobs history)
  pub jobs_counted : AllByRecursion (λ id. number_of id ≤ jobs_drawn) (drawn_jobs history)
  pub tables_rise : Pairs (λ a b. number_of a < number_of b) (drawn_tables history)
  pub tables_counted : AllByRecursion (λ id. (drawn_base < number_of id) × (number_of id ≤ drawn_base + tables_drawn))
      (drawn_tables history)
  pub few : jobs_drawn + tables_drawn ≤ length history

-- ---- names

-- Each job that an entry mentions was drawn. Each stored job was named by a put that took effect,
-- and every faithful replay has its spec. So an id that was just drawn is new. A put of the records
-- dropped the finished jobs that a further put would drop.
pub record NamesKept (world : World) : Type 0 where
  pub drawn : AllByRecursion
      (λ entry. AllByRecursion (λ id. IsTrue (contains (drawn_jobs world.store.history) id))
      (mentioned_in entry)) world.store.history
  pub named : AllByRecursion (λ job. IsTrue (was_named world.store.history job.id)) (stored_jobs world.store)
  pub specs : (specs : ℕ → JobSpec) → Faithful world specs
      → AllByRecursion (λ job. specs job.id ≡ job.spec) (stored_jobs world.store)
  pub trimmed_already : trimmed_jobs (stored_jobs world.store) ≡ stored_jobs world.store

-- ---- attempts

-- The attempt is at a job that a put named, and is no later than the stored attempt of that job.
abbrev pub IsUpTo : List Entry → Jobs → ℕ × ℕ → Type 0
IsUpTo history jobs a = IsTrue (was_named history a.0) × IfSome (job_with a.0 jobs) (λ job. a.1 ≤ job.attempt)

-- No entry names a later attempt than the stored one, and no attempt is claimed twice. So the first
-- claim and the first plan of an attempt are its own. A Submitted job was never beaten, and a job
-- that is not Running or further has no lease.
pub record AttemptsKept (history : List Entry) (jobs : Jobs) : Type 0 where
  pub up_to : AllByRecursion
      (λ entry. IsTrue (stood entry.answer) → AllByRecursion (IsUpTo history jobs) (attempts_in entry.event)) history
  pub planned : AllByRecursion (λ entry. AllByRecursion (IsUpTo history jobs) (planned_attempts entry.event)) history
  pub once : Pairs (λ a b. a ≢ b) (claimed_attempts history)
  pub unbeaten : AllByRecursion (λ job. IsTrue (has_status Submitted job) → was_beaten history job.id ≡ false) jobs
  pub unleased : AllByRecursion
      (λ job. IsTrue (has_status Submitted job || has_status Scheduled job) → IsTrue (is_none job.lease)) jobs
