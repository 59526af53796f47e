use Rattle.commit_laws.proofs.Commits as law
use Rattle.commit_laws.proofs.commits_keep.Goals as goal

pub returns : goal.returns
returns c = law.commits_keep
