use Rattle.line_laws.proofs.PollLines as law
use Rattle.line_laws.proofs.polls_commit.Goals as goal

pub returns : goal.returns
returns c = law.polls_commit
