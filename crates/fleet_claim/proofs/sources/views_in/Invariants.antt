use Rattle.std.proofs.Common.{◌≡◌, take}
use Rattle.std.specs.Prelude.{flat_map}
use Rattle.fleet_claim.specs.Sources.{views_at}
use Rattle.fleet_claim.proofs.sources.views_in.Given as goal

abbrev pub invariant-sources : goal.invariant-sources
invariant-sources l = l.views.items ≡ flat_map (views_at l.tree) (take l.source-index l.sources)
