-- The next rows of a range, written as a table.
use Rattle.std.specs.Prelude.{◌⊎◌, ℕ, List, Option, Some, None, Result, Ok, Err}
use Rattle.row_model.specs.Fold.{Operator}
use Rattle.fleet_model.specs.Invariants.TreesFit.{IsTable}
use Rattle.step_model.specs.Views.{StoreView}
use Rattle.fleet_rows.specs.Row.{rows_of}
use Rattle.fleet_rows.specs.declared.errors.SlateDBError.{SlateDBError}
use Rattle.fleet_rows.specs.declared.row.RowEntry.{RowEntry}
use Rattle.fleet_rows.specs.declared.settings.Settings.{Settings}
use Rattle.fleet_tree.specs.declared.handle.SsTableHandle.{SsTableHandle}
use Rattle.fleet_plan.specs.Parts.{Part}
use Rattle.fleet_output.specs.Next.{GivesNext, ReadsNext}
use Rattle.fleet_output.specs.Puts.{MayPutNew, PutsNew}

module _ (merge : Operator) (settings : Settings) (tables : List SsTableHandle) (part : Part) (most moment : ℕ) where
  -- The rows that the reads give make a table, and it may be put under a new id.
  abbrev pub MayWrite : StoreView → Type 0
  MayWrite view =
      (mid : StoreView) (rows : List RowEntry) → GivesNext merge settings tables part most view mid (Some rows)
      → IsTable (rows_of rows) × MayPutNew mid moment (rows_of rows)

  -- The next rows were read, and were then put as a table, or the put failed.
  pub record WroteRows (old new : StoreView) (put : Result SsTableHandle SlateDBError) : Type 0 where
    pub mid : StoreView
    pub rows : List RowEntry
    pub read : GivesNext merge settings tables part most old mid (Some rows)
    pub puts : PutsNew moment (rows_of rows) mid new put

  -- The next rows were written, or nothing is left. Otherwise the rows were not read, or the put failed.
  abbrev pub WritesNext : (old new : StoreView) → Result (Option SsTableHandle) SlateDBError → Type 0
  WritesNext old new (Ok None) = GivesNext merge settings tables part most old new None
  WritesNext old new (Ok (Some handle)) = WroteRows old new (Ok handle)
  WritesNext old new (Err error) =
      ReadsNext merge settings tables part most old new (Err error) ⊎ WroteRows old new (Err error)
