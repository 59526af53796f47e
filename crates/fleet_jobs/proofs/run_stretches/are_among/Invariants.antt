use Rattle.std.proofs.Common.{◌≡◌, map, length}
use Rattle.fleet_model.specs.Sources.{older_nodes}
use Rattle.fleet_jobs.specs.Sources.{name_of}
use Rattle.fleet_jobs.proofs.RunStretches.{names_of_runs}
use Rattle.fleet_jobs.proofs.run_stretches.are_among.Given as goal

abbrev pub invariant-places : goal.invariant-places
invariant-places l = older_nodes (map name_of l.sources) (names_of_runs l.fn.runs) ≡ older_nodes (map name_of l.sources) (names_of_runs l.rest)

abbrev pub decreases-places : goal.decreases-places
decreases-places l = length l.rest
