-- All that is left of the ranges of a job, made of source tables that are all got for it.
use Rattle.std.specs.Prelude.{◌≡◌, ◌≢◌, ◌⊎◌, ◌++◌, ℕ, true, List, ◌∷◌, map, Result, Ok, Err}
use Rattle.std.specs.List.{AllByRecursion}
use Rattle.row_model.specs.Fold.{Operator}
use Rattle.row_model.specs.Rows.{Row, IsStrictlyOrdered}
use Rattle.row_model.specs.Written.Tables.{cut_tables}
use Rattle.fleet_model.specs.Nodes.{Tables}
use Rattle.fleet_model.specs.Invariants.TreesFit.{IsTable}
use Rattle.fleet_model.specs.Store.{Store, AreHeld}
use Rattle.fleet_model.specs.Work.Attempts.{source_rows}
use Rattle.step_model.specs.Views.{StoreView}
use Rattle.fleet_rows.specs.Row.{rows_of}
use Rattle.fleet_rows.specs.declared.errors.SlateDBError.{SlateDBError}
use Rattle.fleet_rows.specs.declared.errors.SlateDBError.TheVariants.{Memory}
use Rattle.fleet_rows.specs.declared.row.RowEntry.{RowEntry}
use Rattle.fleet_rows.specs.declared.settings.Settings.{Settings}
use Rattle.fleet_tree.specs.declared.handle.SsTableHandle.{SsTableHandle}
use Rattle.fleet_plan.specs.Parts.{Part}
use Rattle.fleet_jobs.specs.Contexts.{table_ids}
use Rattle.fleet_exec.specs.Cut.{RefusesRange}
use Rattle.fleet_store.specs.Handles.{IsDescribed}
use Rattle.fleet_output.specs.Gets.{GotEach, GotUntil}
use Rattle.fleet_output.specs.Next.{CanResume, left_for, read_for}

-- Of a store with these tables, what is left of each range under these settings, cut into tables at `size`.
abbrev pub tables_for : (merge : Operator) (stored : Tables) (settings : Settings) (tables : List SsTableHandle)
    → (size : ℕ) → (parts : List Part) → List (List (List Row))
tables_for merge stored settings tables size parts =
    map (λ part. cut_tables size (left_for merge stored settings tables part).rows) parts

-- No fold refuses in what is left of these ranges.
abbrev pub AreWhole : (merge : Operator) (stored : Tables) (settings : Settings) (tables : List SsTableHandle)
    (parts : List Part) → Type 0
AreWhole merge stored settings tables parts =
    AllByRecursion (λ part. (left_for merge stored settings tables part).whole ≡ true) parts

-- All these ranges can be finished over this store. The source tables are described and held, no two of their rows have
-- both key and sequence in common, and each range can be resumed.
pub record CanFinish (merge : Operator) (store : Store) (settings : Settings) (tables : List SsTableHandle)
    (parts : List Part) : Type 0 where
  pub sound : AllByRecursion (λ table. IsTable table.1) store.tables
  pub described : AllByRecursion (IsDescribed store.tables) tables
  pub held : AreHeld store (table_ids tables)
  pub ordered : IsStrictlyOrdered (source_rows store.tables (table_ids tables))
  pub each : AllByRecursion (CanResume merge store settings tables) parts

-- A fold refuses in what is left of this range, and in what is left of no range before it. `e` is what the operator
-- answered in this range.
pub record RefusesLeft (merge : Operator) (stored : Tables) (settings : Settings) (tables : List SsTableHandle)
    (parts : List Part) (e : SlateDBError) : Type 0 where
  pub before : List Part
  pub part : Part
  pub later : List Part
  pub are : parts ≡ before ++ part ∷ later
  pub whole : AreWhole merge stored settings tables before
  pub refuses : RefusesRange merge (read_for stored tables part) (left_for merge stored settings tables part) e

module _ (merge : Operator) (settings : Settings) (tables : List SsTableHandle) (parts : List Part) (size : ℕ)
    (old new : StoreView) where
  abbrev stored : Tables
  stored = old.world.store.tables

  -- All source tables were got, and these are the tables of what is left of each range. No fold refuses in it.
  pub record GivesLeft (ranges : List (List (List RowEntry))) : Type 0 where
    pub got : GotEach (table_ids tables) old new
    pub cut : map (map rows_of) ranges ≡ tables_for merge stored settings tables size parts
    pub whole : AreWhole merge stored settings tables parts

  -- All source tables were got. If the error is not out of memory, a fold refuses.
  pub record StopsLeft (error : SlateDBError) : Type 0 where
    pub got : GotEach (table_ids tables) old new
    pub refused : error ≢ Memory → RefusesLeft merge stored settings tables parts error

  -- All that is left was read, or a get failed or memory ran out, or a fold refuses.
  abbrev pub ReadsLeft : Result (List (List (List RowEntry))) SlateDBError → Type 0
  ReadsLeft (Ok ranges) = GivesLeft ranges
  ReadsLeft (Err error) = GotUntil (table_ids tables) old new error ⊎ StopsLeft error
