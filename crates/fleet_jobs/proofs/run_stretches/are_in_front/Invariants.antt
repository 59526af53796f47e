use Rattle.std.proofs.Common.{◌≡◌, map, drop}
use Rattle.fleet_model.specs.Sources.{after_front}
use Rattle.fleet_jobs.specs.Sources.{name_of}
use Rattle.fleet_jobs.proofs.RunStretches.{names_of_runs}
use Rattle.fleet_jobs.proofs.run_stretches.are_in_front.Given as goal

abbrev pub invariant-sources : goal.invariant-sources
invariant-sources l = after_front (map name_of l.sources) (names_of_runs l.fn.runs) ≡ after_front (map name_of (drop l.source-index l.sources)) (names_of_runs l.rest)
