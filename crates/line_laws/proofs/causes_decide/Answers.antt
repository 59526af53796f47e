use Rattle.line_laws.proofs.CausedLines as law
use Rattle.line_laws.proofs.causes_decide.Goals as goal

pub returns : goal.returns
returns c = law.causes_decide
