use Rattle.step_model.proofs.WorkedSteps as law
use Rattle.step_model.proofs.worked.a_merge.Goals as goal

pub returns : goal.returns
returns c = law.merged
