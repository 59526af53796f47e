use Rattle.std.proofs.Common.{◌≡◌, map, length}
use Rattle.fleet_model.specs.Work.Gates.{names_older}
use Rattle.fleet_jobs.specs.Sources.{name_of}
use Rattle.fleet_jobs.proofs.places.names_older.Given as goal

abbrev pub invariant-rest : goal.invariant-rest
invariant-rest l = names_older l.sources (map name_of l.nodes) ≡ names_older l.sources (map name_of l.rest)

abbrev pub decreases-rest : goal.decreases-rest
decreases-rest l = length l.rest
