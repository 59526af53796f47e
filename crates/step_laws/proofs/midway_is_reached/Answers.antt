use Rattle.step_laws.proofs.MidwayCalls as law
use Rattle.step_laws.proofs.midway_is_reached.Goals as goal

pub returns : goal.returns
returns c = law.reached
