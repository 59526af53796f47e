use Rattle.std.proofs.Common.{◌≡◌, take}
use Rattle.fleet_range.specs.Keys.{range_of}
use Rattle.fleet_read.specs.Sources.{view_tables}
use Rattle.fleet_read.proofs.sources.run_source.Given as goal

abbrev pub invariant-views : goal.invariant-views
invariant-views l = l.run ≡ view_tables l.store.world.store (range_of l.range) (take l.view-index l.views)
