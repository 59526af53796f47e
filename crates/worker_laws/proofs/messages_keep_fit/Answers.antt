use Rattle.worker_laws.proofs.Messages as law
use Rattle.worker_laws.proofs.messages_keep_fit.Goals as goal

pub returns : goal.returns
returns c = law.messages_keep_fit
