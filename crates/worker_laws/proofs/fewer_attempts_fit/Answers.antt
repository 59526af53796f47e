use Rattle.worker_laws.proofs.Fewer as law
use Rattle.worker_laws.proofs.fewer_attempts_fit.Goals as goal

pub returns : goal.returns
returns c = law.fewer_attempts_fit
