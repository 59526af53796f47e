use Rattle.sched_laws.proofs.Gate as law
use Rattle.sched_laws.proofs.proposals_are_apart.Goals as goal

pub returns : goal.returns
returns c = law.proposals_are_apart
