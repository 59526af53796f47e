use Rattle.coordinator_laws.proofs.PollRuns as law
use Rattle.coordinator_laws.proofs.polls_fit_locally.Goals as goal

pub returns : goal.returns
returns c = law.polls_fit_locally
