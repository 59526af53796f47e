use Rattle.fleet_block.proofs.Index as law
use Rattle.fleet_block.proofs.laws.rows_are_cut_into_blocks.Goals as goal

pub returns : goal.returns
returns c = law.rows_are_cut_into_blocks
