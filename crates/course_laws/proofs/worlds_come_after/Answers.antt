use Rattle.course_laws.proofs.Afterwards as law
use Rattle.course_laws.proofs.worlds_come_after.Goals as goal

pub returns : goal.returns
returns c = law.worlds_come_after
