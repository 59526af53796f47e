use Rattle.fleet_exec.proofs.Turns as law
use Rattle.fleet_exec.proofs.laws.ranges_make_job.Goals as goal

pub returns : goal.returns
returns c = law.ranges_make_job
