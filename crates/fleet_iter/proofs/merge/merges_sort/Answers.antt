use Rattle.fleet_iter.proofs.MergedRows as law
use Rattle.fleet_iter.proofs.merge.merges_sort.Goals as goal

pub returns : goal.returns
returns c = law.merges_sort
