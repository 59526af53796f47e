use Rattle.std.proofs.Common.{◌≡◌, map, take, true}
use Rattle.fleet_model.specs.Work.Gates.{are_distinct}
use Rattle.fleet_jobs.specs.Sources.{name_of}
use Rattle.fleet_jobs.proofs.places.are_distinct.Given as goal

abbrev pub invariant-nodes : goal.invariant-nodes
invariant-nodes l = (l.seen ≡ map name_of (take l.node-index l.nodes)) × (are_distinct (map name_of (take l.node-index l.nodes)) ≡ true)
