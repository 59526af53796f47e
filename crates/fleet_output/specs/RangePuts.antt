-- The puts of the tables of ranges, each under a new id.
use Rattle.std.specs.Prelude.{◌≡◌, ◌⊎◌, ℕ, List, [], ◌∷◌, Result, Ok, Err, ⊤}
use Rattle.std.specs.List.{AllByRecursion}
use Rattle.row_model.specs.Rows.{Row}
use Rattle.fleet_model.specs.Nodes.{Tables}
use Rattle.step_model.specs.Courses.Course.{Course, Ends, puts_ranges, puts_tables}
use Rattle.step_model.specs.Courses.CourseRuns.{IsLawfulCourse}
use Rattle.step_model.specs.Views.{StoreView}
use Rattle.fleet_rows.specs.declared.errors.SlateDBError.{SlateDBError}
use Rattle.fleet_rows.specs.declared.errors.SlateDBError.TheVariants.{Memory}
use Rattle.fleet_tree.specs.declared.handle.SsTableHandle.{SsTableHandle}
use Rattle.fleet_store.specs.Handles.{IsDescribed}
use Rattle.fleet_output.specs.Puts.{PutNew, PutsNew}

-- ---- the tables of one range

-- The draws and the puts of these tables, and nothing more.
abbrev pub each_only : ℕ → List (List Row) → Course ⊤
each_only moment tables = puts_tables moment tables (λ ids. Ends tt)

-- These tables may be put in order, each under a new id, whatever calls of others come in between.
abbrev pub MayPutEach : StoreView → ℕ → List (List Row) → Type 0
MayPutEach view moment tables = IsLawfulCourse view.who view.world (each_only moment tables)

-- These tables were put in order, each under a new id, and the handles describe them.
abbrev pub PutEach : ℕ → List (List Row) → (old new : StoreView) → List SsTableHandle → Type 0
PutEach moment [] old new [] = new ≡ old
PutEach moment [] old new (handle ∷ handles) = ⊥
PutEach moment (rows ∷ tables) old new [] = ⊥
PutEach moment (rows ∷ tables) old new (handle ∷ handles) =
    (mid : StoreView) × (PutNew moment rows old mid handle × PutEach moment tables mid new handles)

-- Some of these tables were put in order. Then the next one was not put, or memory ran out.
abbrev pub PutUntil : ℕ → List (List Row) → (old new : StoreView) → SlateDBError → Type 0
PutUntil moment [] old new error = (error ≡ Memory) × (new ≡ old)
PutUntil moment (rows ∷ tables) old new error =
    PutsNew moment rows old new (Err error)
    ⊎ ((mid : StoreView) × ((handle : SsTableHandle)
    × (PutNew moment rows old mid handle × PutUntil moment tables mid new error)))

-- The tables were put, or fewer of them.
abbrev pub PutsEach : ℕ → List (List Row) → (old new : StoreView) → Result (List SsTableHandle) SlateDBError → Type 0
PutsEach moment tables old new (Ok handles) = PutEach moment tables old new handles
PutsEach moment tables old new (Err error) = PutUntil moment tables old new error

-- ---- all ranges

-- The draws and the puts of the tables of these ranges, and nothing more.
abbrev pub ranges_only : ℕ → List (List (List Row)) → Course ⊤
ranges_only moment ranges = puts_ranges moment ranges (λ ids. Ends tt)

-- The tables of these ranges may be put, range after range, whatever calls of others come in between.
abbrev pub MayPutRanges : StoreView → ℕ → List (List (List Row)) → Type 0
MayPutRanges view moment ranges = IsLawfulCourse view.who view.world (ranges_only moment ranges)

-- The tables of these ranges were put, range after range, and the handles describe them.
abbrev pub PutRanges : ℕ → List (List (List Row)) → (old new : StoreView) → List (List SsTableHandle) → Type 0
PutRanges moment [] old new [] = new ≡ old
PutRanges moment [] old new (handles ∷ outputs) = ⊥
PutRanges moment (tables ∷ ranges) old new [] = ⊥
PutRanges moment (tables ∷ ranges) old new (handles ∷ outputs) =
    (mid : StoreView) × (PutEach moment tables old mid handles × PutRanges moment ranges mid new outputs)

-- The tables of some of these ranges were put, range after range. Then fewer of the next one were put, or memory ran
-- out.
abbrev pub PutRangesUntil : ℕ → List (List (List Row)) → (old new : StoreView) → SlateDBError → Type 0
PutRangesUntil moment [] old new error = (error ≡ Memory) × (new ≡ old)
PutRangesUntil moment (tables ∷ ranges) old new error =
    PutUntil moment tables old new error
    ⊎ ((mid : StoreView) × ((handles : List SsTableHandle)
    × (PutEach moment tables old mid handles × PutRangesUntil moment ranges mid new error)))

-- The tables of the ranges were put, or fewer of them.
abbrev pub PutsRanges : ℕ → List (List (List Row)) → (old new : StoreView)
    → Result (List (List SsTableHandle)) SlateDBError → Type 0
PutsRanges moment ranges old new (Ok outputs) = PutRanges moment ranges old new outputs
PutsRanges moment ranges old new (Err error) = PutRangesUntil moment ranges old new error

-- The tables of each range are described as they were put.
abbrev pub AreDescribed : Tables → List (List SsTableHandle) → Type 0
AreDescribed stored outputs = AllByRecursion (λ tables. AllByRecursion (IsDescribed stored) tables) outputs
