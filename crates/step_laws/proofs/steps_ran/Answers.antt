use Rattle.step_laws.proofs.RanLaws as law
use Rattle.step_laws.proofs.steps_ran.Goals as goal

pub returns : goal.returns
returns c = law.steps_ran
