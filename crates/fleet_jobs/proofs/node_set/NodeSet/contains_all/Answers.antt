use Rattle.std.proofs.Common.{◌∙◌, sym}
use Rattle.std.proofs.lemmas.List.Folds.{list_all-map}
use Rattle.fleet_model.specs.Nodes.{names_contain}
use Rattle.fleet_jobs.specs.Sources.{name_of}
use Rattle.fleet_jobs.proofs.node_set.NodeSet.contains_all.Goals as goal

pub returns : goal.returns
returns c = c.has_all.ensures ∙ sym (list_all-map (names_contain c.args.self.now) name_of c.args.nodes.now)
