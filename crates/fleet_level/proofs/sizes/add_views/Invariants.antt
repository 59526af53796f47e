use Rattle.std.proofs.Common.{◌≡◌, ℕ, map}
use Rattle.std.specs.BTreeMap.{get}
use Rattle.std.specs.Option.{option_or}
use Rattle.std.specs.Ordering.{nat_cmp}
use Rattle.fleet_level.specs.Sizes.{first_size}
use Rattle.fleet_level.proofs.sizes.add_views.Given as goal

-- The size of a table is among those so far, or is that of a table that is left.
abbrev pub invariant-views : goal.invariant-views
invariant-views l = (id : ℕ) → option_or (get nat_cmp l.sizes id) (first_size id (map (λ view. view.sst) l.view-iterator)) ≡ option_or (get nat_cmp l.initial.sizes id) (first_size id (map (λ view. view.sst) l.fn.views))
