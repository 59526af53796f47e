use Rattle.rival_laws.proofs.Workers as law
use Rattle.rival_laws.proofs.rivals_keep_workers.Goals as goal

pub returns : goal.returns
returns c = law.rivals_keep
