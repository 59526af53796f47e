use Rattle.std.proofs.Common.{◌≡◌, map, take}
use Rattle.fleet_jobs.specs.Sources.{name_of}
use Rattle.sched_model.specs.Sizes.{run_names}
use Rattle.fleet_sched.proofs.sized_nodes.run_sources.Given as goal

abbrev pub invariant-runs : goal.invariant-runs
invariant-runs l = map name_of l.sources.items ≡ run_names (take l.run-index l.runs)
