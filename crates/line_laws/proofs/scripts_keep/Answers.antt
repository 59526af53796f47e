use Rattle.line_laws.proofs.Scripts as law
use Rattle.line_laws.proofs.scripts_keep.Goals as goal

pub returns : goal.returns
returns c = law.scripts_keep
