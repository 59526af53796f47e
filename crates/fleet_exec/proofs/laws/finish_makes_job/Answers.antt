use Rattle.fleet_exec.proofs.FinishedJob.{finish_makes_job}
use Rattle.fleet_exec.proofs.laws.finish_makes_job.Goals as goal

pub returns : goal.returns
returns c = finish_makes_job
