use Rattle.step_laws.proofs.Alike as law
use Rattle.step_laws.proofs.faithful_alike.Goals as goal

pub returns : goal.returns
returns c = law.replays_alike
