use Rattle.course_laws.proofs.Beats as law
use Rattle.course_laws.proofs.beats_are_lawful.Goals as goal

pub returns : goal.returns
returns c = law.beats_are_lawful
