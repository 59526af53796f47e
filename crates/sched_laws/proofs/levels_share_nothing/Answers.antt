use Rattle.sched_laws.proofs.LevelShares as law
use Rattle.sched_laws.proofs.levels_share_nothing.Goals as goal

pub returns : goal.returns
returns c = law.share_nothing
