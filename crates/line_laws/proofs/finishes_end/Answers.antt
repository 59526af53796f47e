use Rattle.line_laws.proofs.FinishLines as law
use Rattle.line_laws.proofs.finishes_end.Goals as goal

pub returns : goal.returns
returns c = law.finishes_end
