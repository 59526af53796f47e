use Rattle.sched_laws.proofs.Stores as law
use Rattle.sched_laws.proofs.views_of_stores_stand.Goals as goal

pub returns : goal.returns
returns c = law.views_stand
