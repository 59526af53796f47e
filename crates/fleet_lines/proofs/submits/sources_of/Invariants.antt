use Rattle.std.proofs.Common.{◌≡◌, map, take}
use Rattle.fleet_jobs.specs.Sources.{name_of}
use Rattle.fleet_text.specs.Lines.{nodes_of}
use Rattle.fleet_lines.proofs.submits.sources_of.Given as goal

abbrev pub invariant-nodes : goal.invariant-nodes
invariant-nodes l = map name_of l.sources.items ≡ nodes_of (take l.node-index l.nodes)
