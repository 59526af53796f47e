use Rattle.fleet_exec.proofs.Attempts as law
use Rattle.fleet_exec.proofs.laws.attempts_follow_jobs.Goals as goal

pub returns : goal.returns
returns c = law.attempts_follow_jobs
