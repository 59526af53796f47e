use Rattle.fleet_tree.proofs.ModelFlushes as law
use Rattle.fleet_tree.proofs.laws.flushes_are_the_models.Goals as goal

pub returns : goal.returns
returns c = law.flushes_are_the_models
