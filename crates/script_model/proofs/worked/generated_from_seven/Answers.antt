use Rattle.script_model.proofs.WorkedGenerated as law
use Rattle.script_model.proofs.worked.generated_from_seven.Goals as goal

pub returns : goal.returns
returns c = law.generated_from_seven_is
