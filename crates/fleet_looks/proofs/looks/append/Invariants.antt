use Rattle.std.proofs.Common.{◌≡◌, ◌++◌}
use Rattle.fleet_looks.proofs.looks.append.Given as goal

abbrev pub invariant-more : goal.invariant-more
invariant-more l = l.rows.items ++ l.row-iterator.rest.items ≡ l.initial.rows.items ++ l.initial.row-iterator.rest.items
