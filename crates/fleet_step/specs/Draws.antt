-- Draws, one after the other.
use Rattle.std.specs.Prelude.{◌≡◌, ℕ, ◌<◌, ◌≤◌, ◌⊎◌, List, [], ◌∷◌, length, Result, Ok, Err}
use Rattle.fleet_rows.specs.declared.errors.SlateDBError.{SlateDBError}
use Rattle.fleet_rows.specs.declared.errors.SlateDBError.TheVariants.{Memory}
use Rattle.step_model.specs.Views.{StoreView}
use Rattle.fleet_store.specs.Asks.{DrawsJobId}

-- These ids were drawn for jobs, one after the other.
abbrev pub Drew : ℕ → List ℕ → (old new : StoreView) → Type 0
Drew moment [] old new = new ≡ old
Drew moment (id ∷ ids) old new = (mid : StoreView) × (DrawsJobId old mid moment (Ok id) × Drew moment ids mid new)

-- At most so many ids were drawn. Then a draw failed, or memory ran out.
pub record DrewUntil (moment count : ℕ) (old new : StoreView) (error : SlateDBError) : Type 0 where
  pub ids : List ℕ
  pub mid : StoreView
  pub drew : Drew moment ids old mid
  pub few : length ids ≤ count
  pub stopped : ((length ids < count) × DrawsJobId mid new moment (Err error)) ⊎ ((error ≡ Memory) × (new ≡ mid))

-- So many ids were drawn, or fewer.
abbrev pub DrawsJobs : (moment count : ℕ) → (old new : StoreView) → (result : Result (List ℕ) SlateDBError) → Type 0
DrawsJobs moment count old new (Ok ids) = (length ids ≡ count) × Drew moment ids old new
DrawsJobs moment count old new (Err error) = DrewUntil moment count old new error
