use Rattle.fleet_gates.proofs.FirstRules as law
use Rattle.fleet_gates.proofs.laws.schedulers_are_asked_last.Goals as goal

pub returns : goal.returns
returns c = law.schedulers_are_asked_last
