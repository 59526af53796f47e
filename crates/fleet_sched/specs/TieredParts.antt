-- What a size-tiered scheduler shows.
use Rattle.std.specs.Prelude.{ℕ}
use Rattle.sched_model.specs.Series.{TieredOptions}

-- What a `SizeTieredCompactionScheduler` shows: its options, and how many jobs may be under way at once.
pub record TieredParts : Type 0 where
  pub options : TieredOptions
  pub max_concurrent_compactions : ℕ
