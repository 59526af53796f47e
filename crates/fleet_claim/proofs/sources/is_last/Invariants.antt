use Rattle.std.proofs.Common.{◌≡◌, map, take}
use Rattle.fleet_model.specs.Work.Attempts.{is_last}
use Rattle.fleet_model.specs.Sources.{run_ids}
use Rattle.fleet_jobs.specs.Sources.{name_of}
use Rattle.fleet_claim.proofs.sources.is_last.Given as goal

abbrev pub invariant-nodes : goal.invariant-nodes
invariant-nodes l = l.last ≡ is_last l.run (run_ids (map name_of (take l.node-index l.nodes)))
