use Rattle.line_laws.proofs.Texts as law
use Rattle.line_laws.proofs.texts_run.Goals as goal

pub returns : goal.returns
returns c = law.texts_run
