use Rattle.fleet_iter.proofs.RisingMerges as law
use Rattle.fleet_iter.proofs.merge.merges_rise.Goals as goal

pub returns : goal.returns
returns c = law.merges_rise
