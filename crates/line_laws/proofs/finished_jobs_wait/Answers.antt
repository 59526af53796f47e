use Rattle.line_laws.proofs.FinishedStates as law
use Rattle.line_laws.proofs.finished_jobs_wait.Goals as goal

pub returns : goal.returns
returns c = law.finished_jobs_wait
