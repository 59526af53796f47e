use Rattle.sched_laws.proofs.Proposed as law
use Rattle.sched_laws.proofs.proposals_are_few.Goals as goal

pub returns : goal.returns
returns c = law.few
