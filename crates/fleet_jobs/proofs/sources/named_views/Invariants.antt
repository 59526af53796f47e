use Rattle.std.proofs.Common.{◌≡◌, take}
use Rattle.std.specs.Option.{option_copied}
use Rattle.fleet_jobs.specs.Taken.{l0_in, named_views}
use Rattle.fleet_jobs.proofs.sources.named_views.Given as goal

abbrev pub invariant-sources : goal.invariant-sources
invariant-sources l = l.named.items ≡ named_views (take l.source-index l.sources) (l0_in (option_copied l.tree))
