use Rattle.worker_laws.proofs.Beats as law
use Rattle.worker_laws.proofs.beats_keep_fit.Goals as goal

pub returns : goal.returns
returns c = law.beats_keep_fit
