use Rattle.std.proofs.Common.{◌≡◌, map, take}
use Rattle.fleet_looks.proofs.looks.handles_of.Given as goal

abbrev pub invariant-views : goal.invariant-views
invariant-views l = l.handles.items ≡ map (λ view. view.sst) (take l.view-index l.views)
