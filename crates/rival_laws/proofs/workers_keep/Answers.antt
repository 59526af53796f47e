use Rattle.rival_laws.proofs.Workers as law
use Rattle.rival_laws.proofs.workers_keep.Goals as goal

pub returns : goal.returns
returns c = law.workers_keep
