use Rattle.sched_laws.proofs.Polls as law
use Rattle.sched_laws.proofs.polls_accept_level_jobs.Goals as goal

pub returns : goal.returns
returns c = law.polls_accept_levels
