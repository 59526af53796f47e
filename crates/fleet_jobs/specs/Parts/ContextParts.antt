-- What a `CompactionContext` shows.
use Rattle.std.specs.Prelude.{ℕ, ℤ, Bool, List, Option}
use Rattle.fleet_plan.specs.Parts.{Part}

-- The ranges of an attempt with their tables, and its settings. There is no cut if a worker of release 1 made
-- the context.
pub record ContextParts : Type 0 where
  pub ranges : List Part
  pub floor : ℕ
  pub tick : ℤ
  pub last_run : Bool
  pub cut : Option ℕ
