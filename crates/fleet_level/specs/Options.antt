-- The options of the level scheduler, and the words that name them.
use Rattle.std.specs.Prelude.{◌≡◌, ℕ, ◌<◌, ◌^◌, true, List, [], ◌∷◌, codes, decimal}
use Rattle.sched_model.specs.Levels.{LevelOptions, are_allowed}

-- The model's options with these numbers.
abbrev pub level_options : (l0_trigger base ratio : ℕ) → LevelOptions
level_options l0_trigger base ratio = record { l0_trigger = l0_trigger; base = base; ratio = ratio }

-- The options are allowed, and their numbers are unsigned 64-bit ones.
pub record FitOptions (o : LevelOptions) : Type 0 where
  pub allowed : are_allowed o ≡ true
  pub l0_trigger : o.l0_trigger < 2 ^ 64
  pub base : o.base < 2 ^ 64
  pub ratio : o.ratio < 2 ^ 64

-- The words of a command line that name these options: `run`, `level`, and the three numbers in decimal digits
-- without a sign and without leading zeros.
abbrev pub option_words : LevelOptions → List (List ℕ)
option_words o = codes "run" ∷ codes "level" ∷ decimal o.l0_trigger ∷ decimal o.base ∷ decimal o.ratio ∷ []
