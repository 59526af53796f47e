use Rattle.fleet_jobs.proofs.ModelPlaces as law
use Rattle.fleet_jobs.proofs.laws.nodes_are_the_models.Goals as goal

pub returns : goal.returns
returns c = law.nodes_are_the_models
