use Rattle.coordinator_laws.proofs.GotObjects as law
use Rattle.coordinator_laws.proofs.looks_keep_fit.Goals as goal

pub returns : goal.returns
returns c = law.looks_keep_fit
