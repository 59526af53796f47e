use Rattle.course_laws.proofs.Submits as law
use Rattle.course_laws.proofs.submits_are_lawful.Goals as goal

pub returns : goal.returns
returns c = law.submits_are_lawful
