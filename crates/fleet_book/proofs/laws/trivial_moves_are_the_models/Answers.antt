use Rattle.fleet_book.proofs.ModelFinishes as law
use Rattle.fleet_book.proofs.laws.trivial_moves_are_the_models.Goals as goal

pub returns : goal.returns
returns c = law.trivial_moves_are_the_models
