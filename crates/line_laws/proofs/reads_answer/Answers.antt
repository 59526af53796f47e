use Rattle.line_laws.proofs.ReadLines as law
use Rattle.line_laws.proofs.reads_answer.Goals as goal

pub returns : goal.returns
returns c = law.reads_answer
