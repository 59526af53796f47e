-- The next rows of a range, made of source tables that are got for it.
use Rattle.std.specs.Prelude.{◌≢◌, ◌⊎◌, ℕ, List, Option, Result, Ok, Err}
use Rattle.std.specs.List.{AllByRecursion}
use Rattle.row_model.specs.Fold.{Operator}
use Rattle.row_model.specs.JobRows.{JobRows}
use Rattle.row_model.specs.Lists.{IsPrefixOf}
use Rattle.row_model.specs.Ranges.{rows_in}
use Rattle.row_model.specs.Rows.{Row, IsStrictlyOrdered}
use Rattle.fleet_model.specs.Nodes.{Tables}
use Rattle.fleet_model.specs.Invariants.TreesFit.{IsTable}
use Rattle.fleet_model.specs.Store.{Store, AreHeld}
use Rattle.fleet_model.specs.Work.Attempts.{noted_rows, range_rows, rows_left, source_rows}
use Rattle.step_model.specs.Views.{StoreView}
use Rattle.fleet_rows.specs.Settings.{settings_of}
use Rattle.fleet_rows.specs.declared.errors.SlateDBError.{SlateDBError}
use Rattle.fleet_rows.specs.declared.errors.SlateDBError.TheVariants.{Memory}
use Rattle.fleet_rows.specs.declared.row.RowEntry.{RowEntry}
use Rattle.fleet_rows.specs.declared.settings.Settings.{Settings}
use Rattle.fleet_range.specs.Keys.{range_of}
use Rattle.fleet_tree.specs.declared.handle.SsTableHandle.{SsTableHandle}
use Rattle.fleet_plan.specs.Parts.{Part}
use Rattle.fleet_jobs.specs.Contexts.{noted_range, table_ids}
use Rattle.fleet_exec.specs.Ranges.{from_cursor}
use Rattle.fleet_exec.specs.Tables.{GivesTable, RefusesTable}
use Rattle.fleet_store.specs.Handles.{IsDescribed}
use Rattle.fleet_output.specs.Gets.{GotEach, GotUntil, ids_in}
use Rattle.fleet_output.specs.Jobs.{cursor_of}

-- Of a store with these tables, what is left of the range under these settings.
abbrev pub left_for : (merge : Operator) (stored : Tables) (settings : Settings) (tables : List SsTableHandle)
    (part : Part) → JobRows
left_for merge stored settings tables part =
    rows_left merge stored (settings_of settings) (table_ids tables) (noted_range part)

-- The rows that are read for it: those of the range, from the cursor's key on.
abbrev pub read_for : Tables → List SsTableHandle → Part → List Row
read_for stored tables part =
    from_cursor (cursor_of part.output_ssts) (rows_in (range_of part.range) (source_rows stored (table_ids tables)))

-- The range can be resumed over this store. The source tables are described and held, and no two of their rows have
-- both key and sequence in common. The tables that are noted for the range are described, and have the first rows that
-- it makes.
pub record CanResume (merge : Operator) (store : Store) (settings : Settings) (tables : List SsTableHandle)
    (part : Part) : Type 0 where
  pub sound : AllByRecursion (λ table. IsTable table.1) store.tables
  pub described : AllByRecursion (IsDescribed store.tables) tables
  pub held : AreHeld store (table_ids tables)
  pub ordered : IsStrictlyOrdered (source_rows store.tables (table_ids tables))
  pub noted : AllByRecursion (IsDescribed store.tables) part.output_ssts
  pub first : IsPrefixOf (noted_rows store.tables (table_ids part.output_ssts))
      (range_rows merge store.tables (settings_of settings) (table_ids tables) (range_of part.range)).rows

-- A fold refuses in what is left, and `e` is what the operator answered. Fewer than `most` rows come before it, as
-- `RefusesTable` says.
abbrev pub RefusesNext : (merge : Operator) (stored : Tables) (settings : Settings) (tables : List SsTableHandle)
    (part : Part) → (most : ℕ) → (e : SlateDBError) → Type 0
RefusesNext merge stored settings tables part most e =
    RefusesTable merge (settings_of settings) (cursor_of part.output_ssts) (read_for stored tables part)
    (left_for merge stored settings tables part) most e

module _ (merge : Operator) (settings : Settings) (tables : List SsTableHandle) (part : Part) (most : ℕ)
    (old new : StoreView) where
  abbrev stored : Tables
  stored = old.world.store.tables

  abbrev met : List ℕ
  met = ids_in (range_of part.range) tables

  -- The tables that meet the range were got, and the rows are the next ones that are left of it, at most `most`. None
  -- says that nothing is left.
  pub record GivesNext (rows : Option (List RowEntry)) : Type 0 where
    pub got : GotEach met old new
    pub next : GivesTable (left_for merge stored settings tables part) most rows

  -- The tables that meet the range were got. If the error is not out of memory, a fold refuses.
  pub record Refuses (error : SlateDBError) : Type 0 where
    pub got : GotEach met old new
    pub refused : error ≢ Memory → RefusesNext merge stored settings tables part most error

  -- The next rows were read, or a get failed or memory ran out, or a fold refuses.
  abbrev pub ReadsNext : Result (Option (List RowEntry)) SlateDBError → Type 0
  ReadsNext (Ok rows) = GivesNext rows
  ReadsNext (Err error) = GotUntil met old new error ⊎ Refuses error
