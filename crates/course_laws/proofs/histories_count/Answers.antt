use Rattle.course_laws.proofs.Histories as law
use Rattle.course_laws.proofs.histories_count.Goals as goal

pub returns : goal.returns
returns c = law.histories_count
