use Rattle.line_laws.proofs.AttemptRuns as law
use Rattle.line_laws.proofs.attempts_stay_one.Goals as goal

pub returns : goal.returns
returns c = law.attempts_stay_one
