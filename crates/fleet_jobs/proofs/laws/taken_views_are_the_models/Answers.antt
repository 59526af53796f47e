use Rattle.fleet_jobs.proofs.ModelTaken as law
use Rattle.fleet_jobs.proofs.laws.taken_views_are_the_models.Goals as goal

pub returns : goal.returns
returns c = law.taken_views_are_the_models
