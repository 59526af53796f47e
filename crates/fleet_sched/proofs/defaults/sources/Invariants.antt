use Rattle.std.proofs.Common.{◌≡◌, ◌++◌, map}
use Rattle.fleet_model.specs.Nodes.{Run}
use Rattle.fleet_jobs.specs.Sources.{name_of}
use Rattle.fleet_sched.proofs.defaults.sources.Given as goal

-- The sources so far and those left are all sources.
abbrev pub invariant-runs : goal.invariant-runs
invariant-runs l = map name_of l.sources.items ++ map (λ run. Run run.id) l.run-iterator ≡ map (λ run. Run run.id) l.fn.runs
