use Rattle.course_laws.proofs.Claims as law
use Rattle.course_laws.proofs.claims_are_lawful.Goals as goal

pub returns : goal.returns
returns c = law.claims_are_lawful
