use Rattle.fleet_fold.proofs.JobsOfKey.{folds_one_key}
use Rattle.fleet_fold.proofs.laws.folds_one_key.Goals as goal

pub returns : goal.returns
returns c = folds_one_key
