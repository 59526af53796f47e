use Rattle.sched_laws.proofs.LevelShares as law
use Rattle.sched_laws.proofs.levels_make_runs.Goals as goal

pub returns : goal.returns
returns c = law.levels_make_runs
