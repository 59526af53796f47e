use Rattle.step_laws.proofs.Midway as law
use Rattle.step_laws.proofs.midway_keeps.Goals as goal

pub returns : goal.returns
returns c = law.midway
