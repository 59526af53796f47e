use Rattle.std.proofs.Common.{◌≡◌, map, drop}
use Rattle.fleet_model.specs.Sources.{after_front}
use Rattle.fleet_jobs.specs.Sources.{name_of}
use Rattle.fleet_jobs.proofs.places.after_front.Given as goal

abbrev pub invariant-sources : goal.invariant-sources
invariant-sources l = after_front (map name_of l.sources) (map name_of l.nodes) ≡ after_front (map name_of (drop l.source-index l.sources)) (map name_of l.rest)
