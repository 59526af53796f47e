use Rattle.fleet_gates.proofs.HeldNodes as law
use Rattle.fleet_gates.proofs.laws.held_nodes_are_held.Goals as goal

pub returns : goal.returns
returns c = law.held_nodes_are_held
