use Rattle.coordinator_laws.proofs.Course as law
use Rattle.coordinator_laws.proofs.polls_are_lawful.Goals as goal

pub returns : goal.returns
returns c = law.polls_are_lawful
