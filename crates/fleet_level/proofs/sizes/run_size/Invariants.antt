use Rattle.std.proofs.Common.{◌≡◌, take}
use Rattle.fleet_level.proofs.RunSizes.{views_size}
use Rattle.fleet_level.proofs.sizes.run_size.Given as goal

abbrev pub invariant-views : goal.invariant-views
invariant-views l = l.size ≡ views_size l.sizes (take l.view-index l.view-items)
