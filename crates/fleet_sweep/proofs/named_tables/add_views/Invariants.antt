use Rattle.std.proofs.Common.{◌≡◌, ◌++◌, map}
use Rattle.fleet_sweep.proofs.named_tables.add_views.Given as goal

-- The ids so far and those left are all ids.
abbrev pub invariant-views : goal.invariant-views
invariant-views l = l.ids.items ++ map (λ view. view.sst.id) l.view-iterator ≡ l.initial.ids.items ++ map (λ view. view.sst.id) l.fn.views
