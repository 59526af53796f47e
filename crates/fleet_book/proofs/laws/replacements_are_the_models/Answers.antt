use Rattle.fleet_book.proofs.Replaced as law
use Rattle.fleet_book.proofs.laws.replacements_are_the_models.Goals as goal

pub returns : goal.returns
returns c = law.replacements_are_the_models
