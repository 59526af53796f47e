-- The put of a table under a new id.
use Rattle.std.specs.Prelude.{◌≡◌, ◌⊎◌, ℕ, List, Result, Ok, Err, ⊤}
use Rattle.row_model.specs.Rows.{Row}
use Rattle.fleet_model.specs.Handles.{describe}
use Rattle.step_model.specs.Courses.Course.{Course, Ends, puts_table}
use Rattle.step_model.specs.Courses.CourseRuns.{IsLawfulCourse}
use Rattle.step_model.specs.Views.{StoreView}
use Rattle.fleet_rows.specs.declared.errors.SlateDBError.{SlateDBError}
use Rattle.fleet_rows.specs.declared.errors.SlateDBError.TheVariants.{Memory}
use Rattle.fleet_tree.specs.Handles.{handle_of}
use Rattle.fleet_tree.specs.declared.handle.SsTableHandle.{SsTableHandle}
use Rattle.fleet_store.specs.Asks.{DrawsTableId, PutsTableRows}

-- The draw and the put, and nothing more.
abbrev pub puts_only : ℕ → List Row → Course ⊤
puts_only moment rows = puts_table moment rows (λ table. Ends tt)

-- A table with these rows may be put under a new id, whatever calls of others come in between.
abbrev pub MayPutNew : StoreView → ℕ → List Row → Type 0
MayPutNew view moment rows = IsLawfulCourse view.who view.world (puts_only moment rows)

-- An id was drawn, and the table was put under it. The handle describes it.
pub record PutNew (moment : ℕ) (rows : List Row) (old new : StoreView) (handle : SsTableHandle) : Type 0 where
  pub mid : StoreView
  pub drawn : DrawsTableId old mid moment (Ok handle.id)
  pub put : PutsTableRows mid new handle.id rows (Ok tt)
  pub described : handle_of handle ≡ describe handle.id rows

-- An id was drawn. Then the put failed, or memory ran out.
pub record FailedPut (moment : ℕ) (rows : List Row) (old new : StoreView) (error : SlateDBError) : Type 0 where
  pub mid : StoreView
  pub id : ℕ
  pub drawn : DrawsTableId old mid moment (Ok id)
  pub stopped : PutsTableRows mid new id rows (Err error) ⊎ ((error ≡ Memory) × (new ≡ mid))

-- A table was put under a new id. Otherwise memory ran out, or the draw failed, or the put after it.
abbrev pub PutsNew : ℕ → List Row → (old new : StoreView) → Result SsTableHandle SlateDBError → Type 0
PutsNew moment rows old new (Ok handle) = PutNew moment rows old new handle
PutsNew moment rows old new (Err error) =
    ((error ≡ Memory) × (new ≡ old)) ⊎ (DrawsTableId old new moment (Err error) ⊎ FailedPut moment rows old new error)
