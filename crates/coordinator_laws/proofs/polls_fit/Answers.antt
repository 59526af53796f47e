use Rattle.coordinator_laws.proofs.Coordinators as law
use Rattle.coordinator_laws.proofs.polls_fit.Goals as goal

pub returns : goal.returns
returns c = law.polls_fit
