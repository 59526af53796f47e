-- The value of something whose copies can share it.
use Rattle.std.specs.Arc.{arc_value}
use Rattle.fleet_jobs.specs.declared.shareable.Kept.{Kept}
use Rattle.fleet_jobs.specs.declared.shareable.Kept.TheVariants.{Own, Shared}

abbrev pub value_of : {T : Type 0} → Kept T → T
value_of (Own value) = value
value_of (Shared value) = arc_value value
