use Rattle.fleet_fold.proofs.JobsBegun.{folds_begin_jobs}
use Rattle.fleet_fold.proofs.laws.folds_begin_jobs.Goals as goal

pub returns : goal.returns
returns c = folds_begin_jobs
