use Rattle.sched_laws.proofs.Stores as law
use Rattle.sched_laws.proofs.stores_accept_proposals.Goals as goal

pub returns : goal.returns
returns c = law.stores_accept
