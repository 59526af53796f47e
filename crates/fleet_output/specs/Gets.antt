-- Gets of source tables, one after the other.
use Rattle.std.specs.Prelude.{◌≡◌, ◌⊎◌, ◌&&◌, ◌++◌, ℕ, Bool, List, [], ◌∷◌, filter, map, Some, Result, Ok, Err}
use Rattle.row_model.specs.Ranges.{Range, is_after_start, is_before_end}
use Rattle.row_model.specs.Rows.{Row}
use Rattle.fleet_model.specs.Nodes.{Tables, table_rows}
use Rattle.step_model.specs.Views.{StoreView}
use Rattle.fleet_rows.specs.declared.errors.SlateDBError.{SlateDBError}
use Rattle.fleet_rows.specs.declared.errors.SlateDBError.TheVariants.{Memory}
use Rattle.fleet_tree.specs.declared.handle.SsTableHandle.{SsTableHandle}
use Rattle.fleet_jobs.specs.Contexts.{table_ids}
use Rattle.fleet_exec.specs.Ranges.{Sources}
use Rattle.fleet_store.specs.Asks.{GetsTable}

-- ---- which tables are got

-- True if the keys of the table, from its first to its last one, meet the range.
abbrev pub meets_range : Range → SsTableHandle → Bool
meets_range range table = is_before_end range.to table.first_key && is_after_start range.from table.last_key

-- The ids of the tables whose keys meet the range.
abbrev pub ids_in : Range → List SsTableHandle → List ℕ
ids_in range tables = table_ids (filter (meets_range range) tables)

-- ---- one get

-- The table was got with some rows.
abbrev pub GotTable : ℕ → (old new : StoreView) → Type 0
GotTable id old new = (rows : List Row) × GetsTable old new id (Ok (Some rows))

-- The source is the table that was got.
pub record GotSource (id : ℕ) (old new : StoreView) (source : List (List Row)) : Type 0 where
  pub got : GotTable id old new
  pub is : source ≡ table_rows old.world.store.tables id ∷ []

-- A table was got as a source, or the get failed, or memory ran out after it.
abbrev pub GetsSource : ℕ → (old new : StoreView) → Result (List (List Row)) SlateDBError → Type 0
GetsSource id old new (Ok source) = GotSource id old new source
GetsSource id old new (Err error) = GetsTable old new id (Err error) ⊎ ((error ≡ Memory) × GotTable id old new)

-- ---- all gets

-- These tables were got, one after the other.
abbrev pub GotEach : List ℕ → (old new : StoreView) → Type 0
GotEach [] old new = new ≡ old
GotEach (id ∷ ids) old new = (mid : StoreView) × (GotTable id old mid × GotEach ids mid new)

-- The next of these tables was asked for, and the get failed.
abbrev pub FailsNext : List ℕ → (old new : StoreView) → SlateDBError → Type 0
FailsNext [] old new error = ⊥
FailsNext (id ∷ ids) old new error = GetsTable old new id (Err error)

-- Some of the tables were got. Then a get failed, or memory ran out.
pub record GotUntil (ids : List ℕ) (old new : StoreView) (error : SlateDBError) : Type 0 where
  pub first : List ℕ
  pub later : List ℕ
  pub parts : ids ≡ first ++ later
  pub mid : StoreView
  pub got : GotEach first old mid
  pub stopped : FailsNext later mid new error ⊎ ((error ≡ Memory) × (new ≡ mid))

-- Each of these tables as a source of its own.
abbrev pub sources_at : Tables → List ℕ → Sources
sources_at tables ids = map (λ id. table_rows tables id ∷ []) ids

-- All tables were got. They are sources with the rows that were put.
pub record GotAll (ids : List ℕ) (old new : StoreView) (sources : Sources) : Type 0 where
  pub got : GotEach ids old new
  pub are : sources ≡ sources_at old.world.store.tables ids

-- The tables were got, or fewer of them.
abbrev pub GetsTables : List ℕ → (old new : StoreView) → Result Sources SlateDBError → Type 0
GetsTables ids old new (Ok sources) = GotAll ids old new sources
GetsTables ids old new (Err error) = GotUntil ids old new error
