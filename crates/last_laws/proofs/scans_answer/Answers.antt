use Rattle.last_laws.proofs.ScanLines as law
use Rattle.last_laws.proofs.scans_answer.Goals as goal

pub returns : goal.returns
returns c = law.scans_answer
