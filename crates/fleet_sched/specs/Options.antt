-- The options of the size-tiered scheduler.
use Rattle.std.specs.Prelude.{ℕ}
use Rattle.sched_model.specs.Series.{TieredOptions}

-- The model's options with these numbers.
abbrev pub tiered_options : (least most numerator denominator : ℕ) → TieredOptions
tiered_options least most numerator denominator =
    record { least = least; most = most; numerator = numerator; denominator = denominator }

-- The options that a scheduler has if none are given.
abbrev pub default_options : TieredOptions
default_options = tiered_options 4 8 4 1
