use Rattle.fleet_fold.proofs.Jobs.{folds_make_jobs}
use Rattle.fleet_fold.proofs.laws.folds_make_jobs.Goals as goal

pub returns : goal.returns
returns c = folds_make_jobs
