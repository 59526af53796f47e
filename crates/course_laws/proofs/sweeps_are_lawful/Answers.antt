use Rattle.course_laws.proofs.Sweeps as law
use Rattle.course_laws.proofs.sweeps_are_lawful.Goals as goal

pub returns : goal.returns
returns c = law.sweeps_are_lawful
