use Rattle.fleet_jobs.proofs.ModelPlaces as law
use Rattle.fleet_jobs.proofs.laws.held_nodes_decide.Goals as goal

pub returns : goal.returns
returns c = law.held_nodes_decide
