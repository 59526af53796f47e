use Rattle.last_laws.proofs.Pages as law
use Rattle.last_laws.proofs.scans_resume.Goals as goal

pub returns : goal.returns
returns c = law.scans_resume
