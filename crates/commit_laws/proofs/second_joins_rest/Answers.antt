use Rattle.commit_laws.proofs.SecondJoins as law
use Rattle.commit_laws.proofs.second_joins_rest.Goals as goal

pub returns : goal.returns
returns c = law.second_joins_rest
