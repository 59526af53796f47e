use Rattle.std.proofs.Common.{◌≡◌, ◌++◌, take}
use Rattle.fleet_jobs.specs.Laws.{view_tables}
use Rattle.fleet_gates.proofs.tables.add_view_tables.Given as goal

abbrev pub invariant-views : goal.invariant-views
invariant-views l = l.tables.items ≡ l.initial.tables.items ++ view_tables (take l.view-index l.views)
