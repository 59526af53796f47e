use Rattle.step_laws.proofs.PutLaws as law
use Rattle.step_laws.proofs.other_calls_keep.Goals as goal

pub returns : goal.returns
returns c = law.other_calls_keep
