use Rattle.std.specs.List.{AllByRecursion}
use Rattle.fleet_iter.specs.Iteration.{AreRising}
use Rattle.case_jobs.proofs.iter_calls.rising_lists.Given as goal

abbrev pub invariant-sources : goal.invariant-sources
invariant-sources l = AllByRecursion (λ x. AreRising x.rows) l.lists.items
