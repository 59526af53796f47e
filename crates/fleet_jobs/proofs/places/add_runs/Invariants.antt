use Rattle.std.proofs.Common.{◌≡◌, ◌++◌, map}
use Rattle.fleet_model.specs.Nodes.{Run}
use Rattle.fleet_jobs.specs.Sources.{name_of}
use Rattle.fleet_jobs.proofs.places.add_runs.Given as goal

-- The nodes so far and those left are all nodes.
abbrev pub invariant-runs : goal.invariant-runs
invariant-runs l = map name_of l.nodes.items ++ map (λ run. Run run.id) l.run-iterator ≡ map name_of l.initial.nodes.items ++ map (λ run. Run run.id) l.fn.runs
