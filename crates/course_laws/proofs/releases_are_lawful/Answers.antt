use Rattle.course_laws.proofs.Releases as law
use Rattle.course_laws.proofs.releases_are_lawful.Goals as goal

pub returns : goal.returns
returns c = law.releases_are_lawful
