use Rattle.std.proofs.Common.{◌∙◌}
use Rattle.fleet_gates.proofs.Stands.{all_among}
use Rattle.fleet_gates.proofs.places.has_all.Goals as goal

pub returns-then-are_few : goal.returns-then-are_few
returns-then-are_few c = c.has_each.ensures ∙ all_among c.args.nodes.now c.args.sources.now
