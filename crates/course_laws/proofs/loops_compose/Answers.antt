use Rattle.course_laws.proofs.Composed as law
use Rattle.course_laws.proofs.loops_compose.Goals as goal

pub returns : goal.returns
returns c = law.loops_compose
