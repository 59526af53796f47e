use Rattle.fleet_iter.specs.Iteration.{AreRising}
use Rattle.fleet_tests.proofs.seeks.sought.Given as goal

-- The rows left rise.
abbrev pub invariant-taken : goal.invariant-taken
invariant-taken l = AreRising l.rows.left
