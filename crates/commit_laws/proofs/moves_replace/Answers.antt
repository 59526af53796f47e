use Rattle.commit_laws.proofs.StepForms as law
use Rattle.commit_laws.proofs.moves_replace.Goals as goal

pub returns : goal.returns
returns c = law.moves_replace
