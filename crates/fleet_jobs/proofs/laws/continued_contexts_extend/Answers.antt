use Rattle.fleet_jobs.proofs.Continued as law
use Rattle.fleet_jobs.proofs.laws.continued_contexts_extend.Goals as goal

pub returns : goal.returns
returns c = law.continued_contexts_extend
