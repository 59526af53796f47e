use Rattle.std.proofs.Common.{◌≡◌, take}
use Rattle.fleet_jobs.specs.Laws.{view_tables}
use Rattle.fleet_claim.proofs.sources.tables_of.Given as goal

abbrev pub invariant-views : goal.invariant-views
invariant-views l = l.tables.items ≡ view_tables (take l.view-index l.views)
