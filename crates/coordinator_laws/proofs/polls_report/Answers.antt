use Rattle.coordinator_laws.proofs.PollReports as law
use Rattle.coordinator_laws.proofs.polls_report.Goals as goal

pub returns : goal.returns
returns c = law.polls_report
