use Rattle.std.proofs.Common.{◌≡◌, ◌++◌, take, flat_map}
use Rattle.fleet_jobs.proofs.moves.add_tables.Given as goal

abbrev pub invariant-runs : goal.invariant-runs
invariant-runs l = l.tables.items ≡ l.initial.tables.items ++ flat_map (λ run. run.views) (take l.run-index l.runs)
