use Rattle.fleet_laws.proofs.Scans as law
use Rattle.fleet_laws.proofs.stores_answer_scans.Goals as goal

pub returns : goal.returns
returns c = law.stores_answer_scans
