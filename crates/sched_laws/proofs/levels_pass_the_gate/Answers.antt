use Rattle.sched_laws.proofs.LevelFits as law
use Rattle.sched_laws.proofs.levels_pass_the_gate.Goals as goal

pub returns : goal.returns
returns c = law.levels_pass
