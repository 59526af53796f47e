use Rattle.line_laws.proofs.NamedFinishes as law
use Rattle.line_laws.proofs.finishes_name.Goals as goal

pub returns : goal.returns
returns c = law.finishes_name
