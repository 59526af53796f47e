use Rattle.fleet_laws.proofs.Transparent as law
use Rattle.fleet_laws.proofs.sweeps_are_transparent.Goals as goal

pub returns : goal.returns
returns c = law.sweeps_are_transparent
