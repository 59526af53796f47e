use Rattle.std.proofs.Common.{◌≡◌, ◌++◌, map}
use Rattle.fleet_sched.specs.Sizes.{run_in}
use Rattle.fleet_sched.proofs.sized_nodes.sized_runs.Given as goal

-- The sizes so far and those left are all sizes.
abbrev pub invariant-runs : goal.invariant-runs
invariant-runs l = l.sized.items ++ map run_in l.run-iterator ≡ map run_in l.fn.runs
