use Rattle.last_laws.proofs.LevelPicks as law
use Rattle.last_laws.proofs.weights_count.Goals as goal

pub returns : goal.returns
returns c = law.weights_count
