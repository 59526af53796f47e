use Rattle.std.proofs.Common.{◌≡◌, ◌++◌}
use Rattle.fleet_book.specs.Finishes.{kept_runs}
use Rattle.fleet_book.proofs.finish.kept_runs.Given as goal

abbrev pub invariant-runs : goal.invariant-runs
invariant-runs l = l.kept.items ++ kept_runs l.sources l.run-iterator ≡ kept_runs l.sources l.fn.runs
