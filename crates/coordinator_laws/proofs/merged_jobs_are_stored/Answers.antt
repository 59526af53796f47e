use Rattle.coordinator_laws.proofs.GotObjects as law
use Rattle.coordinator_laws.proofs.merged_jobs_are_stored.Goals as goal

pub returns : goal.returns
returns c = law.merged_jobs_are_stored
