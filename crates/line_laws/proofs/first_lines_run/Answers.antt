use Rattle.line_laws.proofs.Scripts as law
use Rattle.line_laws.proofs.first_lines_run.Goals as goal

pub returns : goal.returns
returns c = law.first_lines_run
