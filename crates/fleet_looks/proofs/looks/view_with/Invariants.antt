use Rattle.std.proofs.Common.{◌≡◌}
use Rattle.std.specs.Prelude.{◌==◌, find}
use Rattle.fleet_tree.specs.Views.{View}
use Rattle.fleet_looks.proofs.looks.view_with.Given as goal

-- What is left has the flush.
abbrev pub invariant-views : goal.invariant-views
invariant-views l = find (λ (view : View). l.name == view.id) l.view-iterator ≡ find (λ (view : View). l.name == view.id) l.views
