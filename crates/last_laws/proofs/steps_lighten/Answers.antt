use Rattle.last_laws.proofs.Weights as law
use Rattle.last_laws.proofs.steps_lighten.Goals as goal

pub returns : goal.returns
returns c = law.steps_lighten
