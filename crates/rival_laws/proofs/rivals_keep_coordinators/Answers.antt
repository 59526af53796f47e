use Rattle.rival_laws.proofs.Coordinators as law
use Rattle.rival_laws.proofs.rivals_keep_coordinators.Goals as goal

pub returns : goal.returns
returns c = law.rivals_keep
