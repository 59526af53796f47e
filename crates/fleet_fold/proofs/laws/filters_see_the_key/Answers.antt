use Rattle.fleet_fold.proofs.Filters as law
use Rattle.fleet_fold.proofs.laws.filters_see_the_key.Goals as goal

pub returns : goal.returns
returns c = law.filters_see_the_key
