use Rattle.line_laws.proofs.Goes as law
use Rattle.line_laws.proofs.lines_go.Goals as goal

pub returns : goal.returns
returns c = law.lines_go
