-- A store has the manifest, the job records, the tables, the numbers drawn so far and the history. The
-- tables that were not deleted are still held.
use Rattle.std.specs.Prelude.{ℕ, ◌-◌, ◌^◌, ◌==◌, ℤ, negsuc, Bool, not, IsTrue, if◌then◌else◌, List, [], ◌∷◌, filter, Option, Some, None}
use Rattle.std.specs.List.{list_all}
use Rattle.fleet_model.specs.Nodes.{Tables, is_among, Trees}
use Rattle.fleet_model.specs.Jobs.{Jobs, contains}
use Rattle.fleet_model.specs.Trees.{empty_segment}
use Rattle.fleet_model.specs.History.{Entry}
use Rattle.fleet_model.specs.Tracker.{Tracked, cut_before}

-- The manifest has the trees, the floor below which no snapshot reads, and the tick, which is the moment by
-- which rows expire. It also has the flushes within the retention, and the horizon. Reads are answered from
-- the horizon and the tick on.
pub record Manifest : Type 0 where
  pub version : ℕ  -- rises by one at each put
  pub epoch : ℕ  -- the epoch of the newest coordinator
  pub trees : Trees
  pub floor : ℕ
  pub tick : ℤ  -- in milliseconds
  pub tracker : List Tracked
  pub horizon : ℕ

-- The job records, which are one object.
pub record Records : Type 0 where
  pub version : ℕ  -- rises by one at each put
  pub epoch : ℕ  -- the epoch of the last coordinator that put it here
  pub jobs : Jobs

-- The contents of a store. Each table that was ever put stays in `tables`, so that what was flushed can be
-- stated. A sweep deletes some tables, and these are no longer held.
pub record Store : Type 0 where
  pub manifest : Manifest
  pub records : Option Records
  pub tables : Tables
  pub deleted : List ℕ
  pub jobs_drawn : ℕ  -- how many ids were drawn for jobs
  pub tables_drawn : ℕ  -- how many ids were drawn for tables
  pub history : List Entry

-- The least signed 64-bit number.
abbrev pub least_tick : ℤ
least_tick = negsuc (2 ^ 63 - 1)

-- A fresh store, with an empty root tree and no job records.
abbrev pub fresh_store : Store
fresh_store = record {
  manifest =
      record {
        version = 1;
        epoch = 0;
        trees = empty_segment [] ∷ [];
        floor = 0;
        tick = least_tick;
        tracker = [];
        horizon = 0;
      };
  records = None;
  tables = [];
  deleted = [];
  jobs_drawn = 0;
  tables_drawn = 0;
  history = [];
}

-- The jobs of the records, or none if there are no records.
abbrev pub jobs_in : Option Records → Jobs
jobs_in None = []
jobs_in (Some records) = records.jobs

-- The jobs of the stored records.
abbrev pub stored_jobs : Store → Jobs
stored_jobs store = jobs_in store.records

-- The epoch of the records, or 0 if there are none.
abbrev pub records_epoch : Option Records → ℕ
records_epoch None = 0
records_epoch (Some records) = records.epoch

-- The tables that were put and not deleted. These are the held tables.
abbrev pub held_tables : Store → Tables
held_tables store = filter (λ table. not (contains store.deleted table.0)) store.tables

-- True if a table with this id is held.
abbrev pub is_held : Store → ℕ → Bool
is_held store table = is_among (held_tables store) table

-- All tables with these ids are held.
abbrev pub AreHeld : Store → List ℕ → Type 0
AreHeld store named = IsTrue (list_all (is_held store) named)

-- All tables with these ids were put, whether they are still held or not.
abbrev pub WerePut : Store → List ℕ → Type 0
WerePut store named = IsTrue (list_all (is_among store.tables) named)

-- The cut of a compaction job that begins at this moment. Without a retention it is the floor. Otherwise
-- the retained flushes may lower it.
abbrev pub cut_at : Manifest → (moment retention : ℕ) → ℕ
cut_at manifest moment retention =
    if retention == 0 then manifest.floor else cut_before manifest.floor moment retention manifest.tracker
