use Rattle.fleet_exec.proofs.Turns as law
use Rattle.fleet_exec.proofs.laws.taken_are_first.Goals as goal

pub returns : goal.returns
returns c = law.taken_are_first
