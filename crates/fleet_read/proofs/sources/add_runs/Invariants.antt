use Rattle.std.proofs.Common.{◌≡◌, ◌++◌}
use Rattle.fleet_range.specs.Keys.{range_of}
use Rattle.fleet_read.specs.Sources.{run_sources}
use Rattle.fleet_read.proofs.sources.add_runs.Given as goal

abbrev pub invariant-runs : goal.invariant-runs
invariant-runs l =
    l.sources ++ run_sources l.store.world.store (range_of l.range) l.run-iterator
    ≡ l.fn.sources ++ run_sources l.store.world.store (range_of l.range) l.fn.runs
