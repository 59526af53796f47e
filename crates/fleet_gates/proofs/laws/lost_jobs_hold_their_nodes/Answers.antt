use Rattle.fleet_gates.proofs.HeldNodes as law
use Rattle.fleet_gates.proofs.laws.lost_jobs_hold_their_nodes.Goals as goal

pub returns : goal.returns
returns c = law.lost_jobs_hold_their_nodes
