use Rattle.rival_laws.proofs.Idle as law
use Rattle.rival_laws.proofs.idle_stores_stay.Goals as goal

pub returns : goal.returns
returns c = law.stays_idle
