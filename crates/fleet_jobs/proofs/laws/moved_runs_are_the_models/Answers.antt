use Rattle.fleet_jobs.proofs.ModelMoved as law
use Rattle.fleet_jobs.proofs.laws.moved_runs_are_the_models.Goals as goal

pub returns : goal.returns
returns c = law.moved_runs_are_the_models
