use Rattle.std.proofs.Common.{◌≡◌, map, take}
use Rattle.fleet_claim.proofs.beginning.described.Given as goal

abbrev pub invariant-views : goal.invariant-views
invariant-views l = l.tables.items ≡ map (λ view. view.sst) (take l.view-index l.views)
