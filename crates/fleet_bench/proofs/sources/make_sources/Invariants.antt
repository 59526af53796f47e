use Rattle.std.specs.List.{AllByRecursion}
use Rattle.fleet_iter.specs.Iteration.{AreRising}
use Rattle.fleet_bench.proofs.sources.make_sources.Given as goal

abbrev pub invariant-sources : goal.invariant-sources
invariant-sources l = AllByRecursion (λ x. AreRising x.rows) l.sources.lists.items
