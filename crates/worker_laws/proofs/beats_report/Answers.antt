use Rattle.worker_laws.proofs.BeatReports as law
use Rattle.worker_laws.proofs.beats_report.Goals as goal

pub returns : goal.returns
returns c = law.beats_report
