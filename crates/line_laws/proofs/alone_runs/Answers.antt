use Rattle.line_laws.proofs.AloneRuns as law
use Rattle.line_laws.proofs.alone_runs.Goals as goal

pub returns : goal.returns
returns c = law.alone_runs_are
