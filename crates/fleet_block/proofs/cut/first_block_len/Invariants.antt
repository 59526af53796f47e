use Rattle.std.proofs.Common.{◌≡◌, ◌<◌, length, ◌+◌}
use Rattle.std.specs.List.{AllByRecursion}
use Rattle.row_model.specs.Bounds.{IsInBounds}
use Rattle.fleet_rows.specs.Row.{rows_of}
use Rattle.fleet_block.specs.Cuts.{first_block_len}
use Rattle.fleet_block.proofs.cut.first_block_len.Given as goal

abbrev pub invariant-rest : goal.invariant-rest
invariant-rest l = record {
  in_bounds : AllByRecursion IsInBounds (rows_of l.rest);
  below : l.filled < 4096;
  counted : l.len + length l.rest ≡ length l.rows;
  left : l.len + first_block_len l.filled (rows_of l.rest) ≡ first_block_len 0 (rows_of l.rows);
}

abbrev pub decreases-rest : goal.decreases-rest
decreases-rest l = length l.rest
