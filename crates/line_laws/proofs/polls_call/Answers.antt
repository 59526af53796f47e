use Rattle.line_laws.proofs.PollCalls as law
use Rattle.line_laws.proofs.polls_call.Goals as goal

pub returns : goal.returns
returns c = law.polls_call
