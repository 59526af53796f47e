use Rattle.course_laws.proofs.Outputs as law
use Rattle.course_laws.proofs.outputs_are_lawful.Goals as goal

pub returns : goal.returns
returns c = law.outputs_are_lawful
