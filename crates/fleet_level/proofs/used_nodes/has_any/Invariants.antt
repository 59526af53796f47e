use Rattle.std.proofs.Common.{◌≡◌}
use Rattle.std.specs.List.{list_any}
use Rattle.fleet_model.specs.Nodes.{L0, names_contain}
use Rattle.fleet_tree.specs.Views.{View}
use Rattle.fleet_level.proofs.used_nodes.has_any.Given as goal

-- What is left says whether one is used.
abbrev pub invariant-flushes : goal.invariant-flushes
invariant-flushes l = list_any (λ (view : View). names_contain l.used (L0 view.id)) l.flush-iterator ≡ list_any (λ (view : View). names_contain l.used (L0 view.id)) l.flushes
