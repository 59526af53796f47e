use Rattle.std.specs.List.{AllByRecursion}
use Rattle.fleet_iter.specs.Iteration.{AreRising}
use Rattle.fleet_tests.proofs.spelt_rows.lists.Given as goal

abbrev pub invariant-lists : goal.invariant-lists
invariant-lists l = AllByRecursion (λ x. AreRising x.rows) l.lists.items
