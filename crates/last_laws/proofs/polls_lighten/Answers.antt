use Rattle.last_laws.proofs.PollWeights as law
use Rattle.last_laws.proofs.polls_lighten.Goals as goal

pub returns : goal.returns
returns c = law.polls_lighten
