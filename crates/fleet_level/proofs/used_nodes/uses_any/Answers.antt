use Rattle.std.proofs.Common.{sym, ◌∙◌}
use Rattle.fleet_model.specs.Nodes.{L0, names_contain}
use Rattle.fleet_tree.specs.Views.{View}
use Rattle.fleet_level.proofs.TreeParts.{any_of_map}
use Rattle.fleet_level.proofs.used_nodes.uses_any.Goals as goal

pub returns : goal.returns
returns c = c.has_any.ensures ∙ sym (any_of_map (names_contain c.args.used.now) (λ (view : View). L0 view.id) c.args.flushes.now)
