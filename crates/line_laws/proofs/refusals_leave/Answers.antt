use Rattle.line_laws.proofs.RefusedLines as law
use Rattle.line_laws.proofs.refusals_leave.Goals as goal

pub returns : goal.returns
returns c = law.refusals_leave
