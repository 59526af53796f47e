use Rattle.line_laws.proofs.AttemptLines as law
use Rattle.line_laws.proofs.attempts_go_on.Goals as goal

pub returns : goal.returns
returns c = law.attempts_go_on
