use Rattle.std.proofs.Common.{◌≡◌, ◌++◌}
use Rattle.fleet_range.specs.Keys.{range_of}
use Rattle.fleet_read.specs.Sources.{flush_sources}
use Rattle.fleet_read.proofs.sources.add_flushes.Given as goal

abbrev pub invariant-flushes : goal.invariant-flushes
invariant-flushes l =
    l.sources ++ flush_sources l.store.world.store (range_of l.range) l.view-iterator
    ≡ l.fn.sources ++ flush_sources l.store.world.store (range_of l.range) l.flushes
