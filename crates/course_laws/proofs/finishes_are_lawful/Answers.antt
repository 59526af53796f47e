use Rattle.course_laws.proofs.Finishes as law
use Rattle.course_laws.proofs.finishes_are_lawful.Goals as goal

pub returns : goal.returns
returns c = law.finishes_are_lawful
