use Rattle.course_laws.proofs.Messages as law
use Rattle.course_laws.proofs.messages_are_lawful.Goals as goal

pub returns : goal.returns
returns c = law.messages_are_lawful
