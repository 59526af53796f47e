use Rattle.line_laws.proofs.CoordinatorRuns as law
use Rattle.line_laws.proofs.live_coordinators.Goals as goal

pub returns : goal.returns
returns c = law.live_coordinators
