use Rattle.fleet_jobs.proofs.ModelPlaces as law
use Rattle.fleet_jobs.proofs.laws.submitted_sources_stand.Goals as goal

pub returns : goal.returns
returns c = law.submitted_sources_stand
