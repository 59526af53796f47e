use Rattle.line_laws.proofs.Counts as law
use Rattle.line_laws.proofs.jobs_count_once.Goals as goal

pub returns : goal.returns
returns c = law.jobs_count_once
