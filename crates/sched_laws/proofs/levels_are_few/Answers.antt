use Rattle.sched_laws.proofs.LevelShares as law
use Rattle.sched_laws.proofs.levels_are_few.Goals as goal

pub returns : goal.returns
returns c = law.levels_are_few
