use Rattle.std.proofs.Common.{◌≤◌, length, ℕ, []}
use Rattle.std.specs.Prelude.{Option}
use Rattle.fleet_rows.specs.Row.{rows_of}
use Rattle.fleet_block.specs.Finds.{FindsBlocks}
use Rattle.fleet_block.proofs.Later.{Rows, view}
use Rattle.fleet_block.proofs.read.blocks_at.Given as goal

abbrev pub invariant-left : goal.invariant-left
invariant-left l = record {
  headers_within : l.header ≤ length l.bytes;
  rows_within : l.place ≤ length l.bytes;
  onward : (found : Option (Rows × ℕ)) → FindsBlocks view l.left (rows_of l.rows.items) l.bytes l.header l.place found → FindsBlocks view l.count [] l.bytes l.initial.header l.initial.place found;
}

abbrev pub decreases-left : goal.decreases-left
decreases-left l = l.left
