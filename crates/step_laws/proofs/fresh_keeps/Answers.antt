use Rattle.step_laws.proofs.Fresh as law
use Rattle.step_laws.proofs.fresh_keeps.Goals as goal

pub returns : goal.returns
returns c = law.fresh_keeps
