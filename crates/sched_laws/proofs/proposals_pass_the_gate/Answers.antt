use Rattle.sched_laws.proofs.Gate as law
use Rattle.sched_laws.proofs.proposals_pass_the_gate.Goals as goal

pub returns : goal.returns
returns c = law.proposals_pass
