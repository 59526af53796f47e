use Rattle.std.proofs.Common.{◌≡◌, map, take}
use Rattle.fleet_range.specs.Keys.{range_of}
use Rattle.fleet_table.specs.Iterator.{state_of}
use Rattle.fleet_exec.specs.Ranges.{opened_states}
use Rattle.fleet_bench.proofs.scans.run_iterators.Given as goal

abbrev pub invariant-sources : goal.invariant-sources
invariant-sources l = map state_of l.iterators.items ≡ opened_states (range_of l.range) (take l.source-index l.sources)
