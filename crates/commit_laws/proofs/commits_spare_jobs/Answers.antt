use Rattle.commit_laws.proofs.SparedJobs as law
use Rattle.commit_laws.proofs.commits_spare_jobs.Goals as goal

pub returns : goal.returns
returns c = law.commits_spare_jobs
