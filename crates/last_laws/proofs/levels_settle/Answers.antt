use Rattle.last_laws.proofs.LevelSettles as law
use Rattle.last_laws.proofs.levels_settle.Goals as goal

pub returns : goal.returns
returns c = law.levels_settle
