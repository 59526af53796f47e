use Rattle.fleet_block.proofs.Tells as law
use Rattle.fleet_block.proofs.laws.bytes_tell_rows.Goals as goal

pub returns : goal.returns
returns c = law.bytes_tell_rows
