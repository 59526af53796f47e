use Rattle.coordinator_laws.proofs.Loops as law
use Rattle.coordinator_laws.proofs.loops_fit.Goals as goal

pub returns : goal.returns
returns c = law.loops_fit
