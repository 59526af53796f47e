use Rattle.fleet_book.proofs.Repeated as law
use Rattle.fleet_book.proofs.laws.repeated_merges_are_idle.Goals as goal

pub returns : goal.returns
returns c = law.repeated_merges_are_idle
