use Rattle.fleet_lock.proofs.Places as law
use Rattle.fleet_lock.proofs.laws.callers_keep_passes.Goals as goal

pub returns : goal.returns
returns c = law.callers_keep_passes
