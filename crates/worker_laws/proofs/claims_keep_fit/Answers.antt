use Rattle.worker_laws.proofs.Claims as law
use Rattle.worker_laws.proofs.claims_keep_fit.Goals as goal

pub returns : goal.returns
returns c = law.claims_keep_fit
