use Rattle.worker_laws.proofs.Releases as law
use Rattle.worker_laws.proofs.releases_keep_fit.Goals as goal

pub returns : goal.returns
returns c = law.releases_keep_fit
