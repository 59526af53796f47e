use Rattle.rival_laws.proofs.FreeTables as law
use Rattle.rival_laws.proofs.rivals_keep_free.Goals as goal

pub returns : goal.returns
returns c = law.rivals_keep_free
