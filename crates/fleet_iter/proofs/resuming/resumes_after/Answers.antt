use Rattle.fleet_iter.proofs.Resumes as law
use Rattle.fleet_iter.proofs.resuming.resumes_after.Goals as goal

pub returns : goal.returns
returns c = law.resumes_after
