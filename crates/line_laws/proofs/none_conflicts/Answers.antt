use Rattle.line_laws.proofs.Conflicts as law
use Rattle.line_laws.proofs.none_conflicts.Goals as goal

pub returns : goal.returns
returns c = law.none_conflicts
