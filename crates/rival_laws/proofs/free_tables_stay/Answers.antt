use Rattle.rival_laws.proofs.FreeTables as law
use Rattle.rival_laws.proofs.free_tables_stay.Goals as goal

pub returns : goal.returns
returns c = law.free_tables_stay
