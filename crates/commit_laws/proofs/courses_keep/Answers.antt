use Rattle.commit_laws.proofs.AllCalls as law
use Rattle.commit_laws.proofs.courses_keep.Goals as goal

pub returns : goal.returns
returns c = law.courses_keep
