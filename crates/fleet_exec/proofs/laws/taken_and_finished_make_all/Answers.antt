use Rattle.fleet_exec.proofs.Turns as law
use Rattle.fleet_exec.proofs.laws.taken_and_finished_make_all.Goals as goal

pub returns : goal.returns
returns c = law.taken_and_finished_make_all
