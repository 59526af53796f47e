use Rattle.worker_laws.proofs.Refusals as law
use Rattle.worker_laws.proofs.outputs_say.Goals as goal

pub returns : goal.returns
returns c = law.outputs_say
