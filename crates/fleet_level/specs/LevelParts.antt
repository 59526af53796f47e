-- What a level scheduler shows.
use Rattle.std.specs.Prelude.{ℕ}
use Rattle.sched_model.specs.Levels.{LevelOptions}

-- What a `LevelScheduler` shows: its options, and how many jobs may be under way at once.
pub record LevelParts : Type 0 where
  pub options : LevelOptions
  pub max_concurrent_compactions : ℕ
