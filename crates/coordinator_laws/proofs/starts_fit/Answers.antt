use Rattle.coordinator_laws.proofs.Coordinators as law
use Rattle.coordinator_laws.proofs.starts_fit.Goals as goal

pub returns : goal.returns
returns c = law.starts_fit
