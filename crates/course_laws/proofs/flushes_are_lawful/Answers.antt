use Rattle.course_laws.proofs.Flushes as law
use Rattle.course_laws.proofs.flushes_are_lawful.Goals as goal

pub returns : goal.returns
returns c = law.flushes_are_lawful
