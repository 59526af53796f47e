use Rattle.fleet_fold.proofs.JobsRefused.{refuses_by_operator}
use Rattle.fleet_fold.proofs.laws.refuses_by_operator.Goals as goal

pub returns : goal.returns
returns c = refuses_by_operator
