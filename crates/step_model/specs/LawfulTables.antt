-- When a note, a draw, the put of a table and the deletion of a table are lawful.
use Rattle.std.specs.Prelude.{◌≡◌, ◌⊎◌, ℕ, ◌+◌, ◌<◌, false, ◌&&◌, not, ◌==◌, Bool, IsTrue, List, filter, flat_map, length, Some, ⊤}
use Rattle.std.specs.List.{list_any}
use Rattle.row_model.specs.Rows.{Row}
use Rattle.fleet_model.specs.Nodes.{is_among}
use Rattle.fleet_model.specs.Jobs.{Job, Jobs, contains, is_active, drawn_base}
use Rattle.fleet_model.specs.History.{Party, Writer, Worker, Sweeper, Event, GetManifest, GetRecords, GetTable, DrawTable, Plan, Start, Kill, Entry}
use Rattle.fleet_model.specs.Store.{Manifest, Store, stored_jobs, is_held}
use Rattle.fleet_model.specs.Handles.{tree_tables, job_tables, named_tables}
use Rattle.fleet_model.specs.Invariants.TreesFit.{IsTable}
use Rattle.step_model.specs.Past.{World}
use Rattle.step_model.specs.Entries.{last_event, is_pending, last_name, was_claimed, did_event, is_put_of, drawn_tables}

-- ---- gets and notes

-- A worker may note the plan of an attempt that it claimed, and no other party may. So the first
-- note of an attempt has its ranges.
pub record PlanFits (party : Party) (store : Store) (job attempt : ℕ) : Type 0 where
  pub worker : ℕ
  pub by : party ≡ Worker worker
  pub claimed : IsTrue (was_claimed store.history worker job attempt)

-- A get is always lawful. A note that a party comes or goes is lawful if the party itself makes it.
-- No other event is a call that its event describes completely.
abbrev pub PlainFits : Party → Store → Event → Type 0
PlainFits party store GetManifest = ⊤
PlainFits party store GetRecords = ⊤
PlainFits party store (GetTable table) = ⊤
PlainFits party store (Plan job attempt ranges) = PlanFits party store job attempt
PlainFits party store (Start other) = party ≡ other
PlainFits party store (Kill other) = party ≡ other
PlainFits party store _ = ⊥

-- ---- draws

-- A number may be drawn while the history, with the entry of the draw, is shorter than the numbers
-- of drawn tables. So no number outgrows its part of an id, and no id is drawn twice.
abbrev pub DrawFits : Store → Type 0
DrawFits store = length store.history + 1 < drawn_base

-- ---- tables

-- A party may put a table under the id that it drew with its last call. The writer may put a flush's
-- table under a name that is above all names that flushes have used.
abbrev pub MayName : Party → List Entry → ℕ → Type 0
MayName party history table =
    (last_event party history ≡ Some (DrawTable table))
    ⊎ ((party ≡ Writer) × (last_name history < table) × (table < drawn_base))

-- A party may put a table that is not empty, ordered and in bounds, under an id that it may name and
-- under which no table was ever put. It is not enough that no table is held under the id: the id of
-- a deleted table must not come back.
pub record TableFits (party : Party) (store : Store) (table : ℕ) (rows : List Row) : Type 0 where
  pub sound : IsTable rows
  pub new : is_among store.tables table ≡ false
  pub named : MayName party store.history table

-- A sweeper may delete a held table that neither the trees nor the active jobs name, and that no
-- flush is about to bring to a tree.
pub record DeletionFits (party : Party) (store : Store) (table : ℕ) : Type 0 where
  pub by : party ≡ Sweeper
  pub held : IsTrue (is_held store table)
  pub unnamed : contains (named_tables store.manifest.trees (filter is_active (stored_jobs store))) table ≡ false
  pub not_pending : is_pending store.history table ≡ false

-- ---- which tables a job may name

-- True if a node of a past manifest holds this table. The stored manifest is one of the past.
abbrev pub was_piece : List Manifest → ℕ → Bool
was_piece past table = list_any (λ manifest. contains (flat_map tree_tables manifest.trees) table) past

-- The tables that the active jobs other than this one name in their contexts and outputs.
abbrev pub other_tables : ℕ → Jobs → List ℕ
other_tables id jobs = flat_map job_tables (filter (λ job. is_active job && not (id == job.id)) jobs)

-- A table is the party's own if the id was drawn, the party put the table, no node ever held it, and
-- no active job but this one names it.
pub record IsOwnTable (party : Party) (world : World) (id table : ℕ) : Type 0 where
  pub drawn : IsTrue (contains (drawn_tables world.store.history) table)
  pub put : IsTrue (did_event (is_put_of table) party world.store.history)
  pub unused : was_piece world.past table ≡ false
  pub unnamed : contains (other_tables id (stored_jobs world.store)) table ≡ false

-- A party may name a table for a job if the job names it already, or if it is the party's own.
abbrev pub MayUse : (party : Party) (world : World) (job : Job) (table : ℕ) → Type 0
MayUse party world job table = IsTrue (contains (job_tables job) table) ⊎ IsOwnTable party world job.id table
