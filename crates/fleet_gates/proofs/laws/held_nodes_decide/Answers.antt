use Rattle.fleet_gates.proofs.HeldNodes as law
use Rattle.fleet_gates.proofs.laws.held_nodes_decide.Goals as goal

pub returns : goal.returns
returns c = law.held_nodes_decide
