use Rattle.std.proofs.Common.{◌≤◌, length, ℕ}
use Rattle.std.specs.Prelude.{Option}
use Rattle.fleet_rows.specs.Row.{rows_of}
use Rattle.fleet_block.specs.Finds.{FindsLater}
use Rattle.fleet_block.proofs.Later.{Rows, view}
use Rattle.fleet_block.proofs.block.later_at.Given as goal

abbrev pub invariant-left : goal.invariant-left
invariant-left l = record {
  within : l.place ≤ length l.bytes;
  onward : (found : Option (Rows × ℕ)) → FindsLater view l.first l.filled l.left (rows_of l.rows.items) l.bytes l.place found → FindsLater view l.first l.initial.filled l.count (rows_of l.initial.rows.items) l.bytes l.initial.place found;
}

abbrev pub decreases-left : goal.decreases-left
decreases-left l = l.left
