use Rattle.fleet_jobs.proofs.ModelMovable as law
use Rattle.fleet_jobs.proofs.laws.movable_jobs_are_the_models.Goals as goal

pub returns : goal.returns
returns c = law.movable_jobs_are_the_models
