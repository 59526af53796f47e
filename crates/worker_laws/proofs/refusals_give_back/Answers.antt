use Rattle.worker_laws.proofs.Refusals as law
use Rattle.worker_laws.proofs.refusals_give_back.Goals as goal

pub returns : goal.returns
returns c = law.refusals_give_back
