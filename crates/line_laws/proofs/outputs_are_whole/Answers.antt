use Rattle.line_laws.proofs.Outputs as law
use Rattle.line_laws.proofs.outputs_are_whole.Goals as goal

pub returns : goal.returns
returns c = law.outputs_are_whole
