use Rattle.fleet_block.proofs.Decoded as law
use Rattle.fleet_block.proofs.laws.bytes_are_decoded.Goals as goal

pub returns : goal.returns
returns c = law.bytes_are_decoded
