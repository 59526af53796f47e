use Rattle.std.proofs.Common.{◌≡◌, ◌++◌, take}
use Rattle.fleet_claim.proofs.sources.add_views.Given as goal

abbrev pub invariant-more : goal.invariant-more
invariant-more l = l.views.items ≡ l.initial.views.items ++ take l.view-index l.more
