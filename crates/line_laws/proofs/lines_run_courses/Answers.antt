use Rattle.line_laws.proofs.Ran as law
use Rattle.line_laws.proofs.lines_run_courses.Goals as goal

pub returns : goal.returns
returns c = law.lines_run_courses
