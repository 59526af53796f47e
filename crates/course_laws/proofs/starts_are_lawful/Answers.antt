use Rattle.course_laws.proofs.Starts as law
use Rattle.course_laws.proofs.starts_are_lawful.Goals as goal

pub returns : goal.returns
returns c = law.starts_are_lawful
