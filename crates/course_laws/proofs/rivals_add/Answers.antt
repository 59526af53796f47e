use Rattle.course_laws.proofs.Histories as law
use Rattle.course_laws.proofs.rivals_add.Goals as goal

pub returns : goal.returns
returns c = law.rivals_add
