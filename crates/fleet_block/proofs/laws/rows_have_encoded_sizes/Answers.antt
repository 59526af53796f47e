use Rattle.fleet_block.proofs.Lengths as law
use Rattle.fleet_block.proofs.laws.rows_have_encoded_sizes.Goals as goal

pub returns : goal.returns
returns c = law.rows_have_encoded_sizes
