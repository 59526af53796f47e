use Rattle.std.proofs.Common.{◌≡◌, ℕ}
use Rattle.std.specs.BTreeMap.{get}
use Rattle.std.specs.Option.{option_or}
use Rattle.std.specs.Ordering.{nat_cmp}
use Rattle.fleet_level.specs.Sizes.{first_size, tables_of_runs}
use Rattle.fleet_level.proofs.sizes.add_runs.Given as goal

-- The size of a table is among those so far, or is that of a table that is left.
abbrev pub invariant-runs : goal.invariant-runs
invariant-runs l = (id : ℕ) → option_or (get nat_cmp l.sizes id) (first_size id (tables_of_runs l.run-iterator)) ≡ option_or (get nat_cmp l.initial.sizes id) (first_size id (tables_of_runs l.fn.runs))
