use Rattle.worker_laws.proofs.Fewer as law
use Rattle.worker_laws.proofs.idle_workers_fit.Goals as goal

pub returns : goal.returns
returns c = law.idle_workers_fit
