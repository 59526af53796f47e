use Rattle.line_laws.proofs.WorkedRun as law
use Rattle.line_laws.proofs.a_worked_run.Goals as goal

pub returns : goal.returns
returns c = law.worked_runs
