use Rattle.fleet_book.proofs.ModelFinishes as law
use Rattle.fleet_book.proofs.laws.drains_are_the_models.Goals as goal

pub returns : goal.returns
returns c = law.drains_are_the_models
