use Rattle.worker_laws.proofs.Finishes as law
use Rattle.worker_laws.proofs.finishes_report.Goals as goal

pub returns : goal.returns
returns c = law.finishes_report
