use Rattle.fleet_book.proofs.Trims as law
use Rattle.fleet_book.proofs.laws.repeated_trims_are_idle.Goals as goal

pub returns : goal.returns
returns c = law.repeated_trims_are_idle
