use Rattle.std.proofs.Common.{◌≡◌, ℕ, take}
use Rattle.std.specs.BTreeMap.{get}
use Rattle.std.specs.Option.{option_or}
use Rattle.std.specs.Ordering.{nat_cmp}
use Rattle.fleet_sched.specs.Views.{tree_handles}
use Rattle.fleet_level.specs.Sizes.{first_size, tables_of_trees}
use Rattle.fleet_level.proofs.sizes.table_sizes.Given as goal

abbrev pub invariant-segments : goal.invariant-segments
invariant-segments l = (id : ℕ) → get nat_cmp l.sizes id ≡ option_or (first_size id (tree_handles l.core.tree)) (first_size id (tables_of_trees (take l.segment-index l.segment-items)))
