use Rattle.line_laws.proofs.Faults as law
use Rattle.line_laws.proofs.faults_cut.Goals as goal

pub returns : goal.returns
returns c = law.faults_cut
