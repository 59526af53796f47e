use Rattle.worker_laws.proofs.OwnCalls as law
use Rattle.worker_laws.proofs.own_calls_keep.Goals as goal

pub returns : goal.returns
returns c = law.own_calls_keep
