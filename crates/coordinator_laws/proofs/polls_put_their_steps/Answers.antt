use Rattle.coordinator_laws.proofs.CommitPuts as law
use Rattle.coordinator_laws.proofs.polls_put_their_steps.Goals as goal

pub returns : goal.returns
returns c = law.polls_put_their_steps
