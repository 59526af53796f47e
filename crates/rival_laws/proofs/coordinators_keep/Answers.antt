use Rattle.rival_laws.proofs.Coordinators as law
use Rattle.rival_laws.proofs.coordinators_keep.Goals as goal

pub returns : goal.returns
returns c = law.coordinators_keep
