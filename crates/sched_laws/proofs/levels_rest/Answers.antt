use Rattle.sched_laws.proofs.LevelRest as law
use Rattle.sched_laws.proofs.levels_rest.Goals as goal

pub returns : goal.returns
returns c = record { within = law.rest_within; exactly = law.go_on }
