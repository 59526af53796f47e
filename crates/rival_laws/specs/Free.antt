-- Tables that a party put and that nothing names yet.
use Rattle.std.specs.Prelude.{◌≡◌, ◌≢◌, ℕ, IsTrue, filter, flat_map, false}
use Rattle.row_model.specs.Fold.{Operator}
use Rattle.fleet_model.specs.Jobs.{contains, is_active}
use Rattle.fleet_model.specs.History.{Party, Worker}
use Rattle.fleet_model.specs.Store.{stored_jobs}
use Rattle.fleet_model.specs.Handles.{job_tables}
use Rattle.fleet_model.specs.Exchanges.{Exchange}
use Rattle.step_model.specs.Past.{World}
use Rattle.step_model.specs.Entries.{did_event, is_put_of, drawn_tables}
use Rattle.step_model.specs.LawfulTables.{was_piece}
use Rattle.step_model.specs.Lawful.{Lawful}
use Rattle.step_model.specs.Rivals.{Caller, Rivals, Strike, MayStrike, after_call}
use Rattle.step_model.specs.Kept.Keeps.{Keeps}
use Rattle.step_laws.specs.Runs.{CallsKeep}

-- The party put the table under a drawn id, no node ever held it, and no active job names it.
pub record IsFree (party : Party) (world : World) (table : ℕ) : Type 0 where
  pub drawn : IsTrue (contains (drawn_tables world.store.history) table)
  pub put : IsTrue (did_event (is_put_of table) party world.store.history)
  pub unused : was_piece world.past table ≡ false
  pub unnamed : contains (flat_map job_tables (filter is_active (stored_jobs world.store))) table ≡ false

-- A lawful call of another party names no table that the worker put and nothing names, whether a
-- fault strikes the call or not.
abbrev pub CallKeepsFree : Operator → Exchange → Type 0
CallKeepsFree merge x = (line : ℕ) (party : Party) (strike : Strike) (world : World) (worker table : ℕ)
    → Keeps merge world → party ≢ Worker worker → Lawful merge party world x → MayStrike x world strike
    → IsFree (Worker worker) world table → IsFree (Worker worker) (after_call line party x strike world) table

-- No lawful call of another party names a free table of a worker.
abbrev pub FreeTablesStay : Operator → Type 0
FreeTablesStay merge = (x : Exchange) → CallKeepsFree merge x

-- Calls of others that come between two calls of a worker name none of its free tables, if each
-- lawful call keeps the invariant.
abbrev pub RivalsKeepFree : Type 0
RivalsKeepFree = (who : Caller) (old new : World) (worker table : ℕ) → CallsKeep who.merge → who.party ≡ Worker worker
    → Keeps who.merge old → Rivals who old new → IsFree who.party old table → IsFree who.party new table
