use Rattle.std.proofs.Common.{◌≡◌}
use Rattle.std.specs.Prelude.{find}
use Rattle.fleet_model.specs.Nodes.{L0}
use Rattle.fleet_tree.specs.Views.{View}
use Rattle.fleet_book.specs.Finishes.{is_named}
use Rattle.fleet_book.proofs.finish.newest_named.Given as goal

-- What is left has the newest flush among the sources.
abbrev pub invariant-views : goal.invariant-views
invariant-views l = find (λ (view : View). is_named l.sources (L0 view.id)) l.view-iterator ≡ find (λ (view : View). is_named l.sources (L0 view.id)) l.views
