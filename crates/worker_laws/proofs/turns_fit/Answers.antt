use Rattle.worker_laws.proofs.Turns as law
use Rattle.worker_laws.proofs.turns_fit.Goals as goal

pub returns : goal.returns
returns c = law.turns_fit
