use Rattle.std.proofs.Common.{◌≡◌, ◌++◌}
use Rattle.fleet_block.proofs.read.append.Given as goal

abbrev pub invariant-block : goal.invariant-block
invariant-block l = l.rows.items ++ l.row-iterator.rest.items ≡ l.initial.rows.items ++ l.initial.row-iterator.rest.items
