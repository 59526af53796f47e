use Rattle.fleet_store.proofs.Alike as law
use Rattle.fleet_store.proofs.laws.refused_puts_are_alike.Goals as goal

pub returns : goal.returns
returns c = law.refused_puts_are_alike
