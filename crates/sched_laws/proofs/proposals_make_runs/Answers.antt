use Rattle.sched_laws.proofs.Proposed as law
use Rattle.sched_laws.proofs.proposals_make_runs.Goals as goal

pub returns : goal.returns
returns c = law.make_runs
