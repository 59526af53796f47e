use Rattle.worker_laws.proofs.Claims as law
use Rattle.worker_laws.proofs.claims_report.Goals as goal

pub returns : goal.returns
returns c = law.claims_report
