use Rattle.last_laws.proofs.WorkedSettling as law
use Rattle.last_laws.proofs.a_worked_settle_line.Goals as goal

pub returns : goal.returns
returns c = law.worked_settling
