use Rattle.std.proofs.Common.{length}
use Rattle.fleet_rows.specs.Row.{rows_of}
use Rattle.fleet_tree.specs.Handles.{blocks_of}
use Rattle.fleet_table.proofs.BlockCuts.{IsCutSoFar}
use Rattle.fleet_table.proofs.cutting.cut_blocks.Given as goal

abbrev pub invariant-rest : goal.invariant-rest
invariant-rest l = IsCutSoFar (rows_of l.rows) (rows_of l.rest) (blocks_of l.blocks) l.offset

abbrev pub decreases-rest : goal.decreases-rest
decreases-rest l = length l.rest
