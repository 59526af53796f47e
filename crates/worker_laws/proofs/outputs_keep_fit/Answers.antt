use Rattle.worker_laws.proofs.Outputs as law
use Rattle.worker_laws.proofs.outputs_keep_fit.Goals as goal

pub returns : goal.returns
returns c = law.outputs_keep_fit
