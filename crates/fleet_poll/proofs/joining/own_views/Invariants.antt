use Rattle.std.proofs.Common.{◌≡◌, take}
use Rattle.fleet_poll.specs.Made.{own_views}
use Rattle.fleet_poll.proofs.joining.own_views.Given as goal

abbrev pub invariant-tables : goal.invariant-tables
invariant-tables l = l.views.items ≡ own_views (take l.table-index l.tables)
