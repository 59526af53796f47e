use Rattle.coordinator_laws.proofs.PollRuns as law
use Rattle.coordinator_laws.proofs.finished_jobs_may_differ.Goals as goal

pub returns : goal.returns
returns c = law.finished_jobs_may_differ
