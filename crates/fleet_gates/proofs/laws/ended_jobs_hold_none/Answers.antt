use Rattle.fleet_gates.proofs.HeldNodes as law
use Rattle.fleet_gates.proofs.laws.ended_jobs_hold_none.Goals as goal

pub returns : goal.returns
returns c = law.ended_jobs_hold_none
