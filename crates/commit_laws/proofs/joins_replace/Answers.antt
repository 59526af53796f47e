use Rattle.commit_laws.proofs.StepForms as law
use Rattle.commit_laws.proofs.joins_replace.Goals as goal

pub returns : goal.returns
returns c = law.joins_replace
