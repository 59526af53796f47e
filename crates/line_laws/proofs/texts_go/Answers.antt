use Rattle.line_laws.proofs.Goes as law
use Rattle.line_laws.proofs.texts_go.Goals as goal

pub returns : goal.returns
returns c = law.texts_go
