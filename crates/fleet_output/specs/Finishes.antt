-- All that is left of the ranges of a job, written as tables.
use Rattle.std.specs.Prelude.{◌≡◌, ◌⊎◌, ◌++◌, ℕ, List, [], ◌∷◌, Result, Ok, Err}
use Rattle.std.specs.List.{AllByRecursion}
use Rattle.row_model.specs.Fold.{Operator}
use Rattle.row_model.specs.Rows.{Row}
use Rattle.fleet_model.specs.Invariants.TreesFit.{IsTable}
use Rattle.step_model.specs.Views.{StoreView}
use Rattle.fleet_rows.specs.declared.errors.SlateDBError.{SlateDBError}
use Rattle.fleet_rows.specs.declared.settings.Settings.{Settings}
use Rattle.fleet_tree.specs.declared.handle.SsTableHandle.{SsTableHandle}
use Rattle.fleet_plan.specs.Parts.{Part}
use Rattle.fleet_jobs.specs.Contexts.{table_ids}
use Rattle.fleet_output.specs.Gets.{GotEach}
use Rattle.fleet_output.specs.Left.{AreWhole, ReadsLeft, tables_for}
use Rattle.fleet_output.specs.RangePuts.{MayPutRanges, PutRanges, PutRangesUntil}

-- The tables of each range: those that are noted for it, followed by the new ones.
abbrev pub noted_and : List Part → (new : List (List SsTableHandle)) → List (List SsTableHandle)
noted_and [] new = []
noted_and (part ∷ parts) [] = part.output_ssts ∷ noted_and parts []
noted_and (part ∷ parts) (tables ∷ new) = (part.output_ssts ++ tables) ∷ noted_and parts new

module _ (merge : Operator) (settings : Settings) (tables : List SsTableHandle) (parts : List Part)
    (size moment : ℕ) where
  -- Of this store, the tables of what is left of each range.
  abbrev pub tables_left : StoreView → List (List (List Row))
  tables_left view = tables_for merge view.world.store.tables settings tables size parts

  -- No fold of this store refuses in it.
  abbrev pub NoneRefuses : StoreView → Type 0
  NoneRefuses view = AreWhole merge view.world.store.tables settings tables parts

  -- If no fold refuses, what is left makes tables, and after the gets these may be put under new ids.
  abbrev pub MayWriteLeft : StoreView → Type 0
  MayWriteLeft view = NoneRefuses view → (mid : StoreView) → GotEach (table_ids tables) view mid
      → AllByRecursion (AllByRecursion IsTable) (tables_left view) × MayPutRanges mid moment (tables_left view)

  -- All source tables were got, and all that is left was put. These are the tables of each range, with those that were
  -- noted.
  pub record WroteLeft (old new : StoreView) (outputs : List (List SsTableHandle)) : Type 0 where
    pub mid : StoreView
    pub got : GotEach (table_ids tables) old mid
    pub whole : NoneRefuses old
    pub handles : List (List SsTableHandle)
    pub put : PutRanges moment (tables_left old) mid new handles
    pub are : outputs ≡ noted_and parts handles

  -- All source tables were got. Then fewer tables than are left were put, or memory ran out.
  pub record WroteUntil (old new : StoreView) (error : SlateDBError) : Type 0 where
    pub mid : StoreView
    pub got : GotEach (table_ids tables) old mid
    pub whole : NoneRefuses old
    pub put : PutRangesUntil moment (tables_left old) mid new error

  -- All that is left was written. Otherwise it was not read, or fewer tables were put.
  abbrev pub WritesLeft : (old new : StoreView) → Result (List (List SsTableHandle)) SlateDBError → Type 0
  WritesLeft old new (Ok outputs) = WroteLeft old new outputs
  WritesLeft old new (Err error) =
      ReadsLeft merge settings tables parts size old new (Err error) ⊎ WroteUntil old new error
