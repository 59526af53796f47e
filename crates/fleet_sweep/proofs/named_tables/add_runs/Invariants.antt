use Rattle.std.proofs.Common.{◌≡◌, ◌++◌}
use Rattle.fleet_sweep.specs.Named.{ids_in_runs}
use Rattle.fleet_sweep.proofs.named_tables.add_runs.Given as goal

-- The ids so far and those left are all ids.
abbrev pub invariant-runs : goal.invariant-runs
invariant-runs l = l.ids.items ++ ids_in_runs l.run-iterator ≡ l.initial.ids.items ++ ids_in_runs l.fn.runs
