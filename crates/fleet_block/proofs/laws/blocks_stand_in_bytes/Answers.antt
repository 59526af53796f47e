use Rattle.fleet_block.proofs.Stand as law
use Rattle.fleet_block.proofs.laws.blocks_stand_in_bytes.Goals as goal

pub returns : goal.returns
returns c = law.blocks_stand_in_bytes
