use Rattle.line_laws.proofs.LiveRuns as law
use Rattle.line_laws.proofs.live_workers.Goals as goal

pub returns : goal.returns
returns c = law.live_workers
