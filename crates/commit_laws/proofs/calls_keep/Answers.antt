use Rattle.commit_laws.proofs.AllCalls as law
use Rattle.commit_laws.proofs.calls_keep.Goals as goal

pub returns : goal.returns
returns c = law.calls_keep
